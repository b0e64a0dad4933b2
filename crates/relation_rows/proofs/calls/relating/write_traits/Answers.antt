use Rattle.std.proofs.Common.{rules}
use Rattle.relation_terms.proofs.Stays.{extends_on}
use Rattle.variable_tables.proofs.Grows.{lawful_grows}
use Rattle.text_asking.proofs.RelatedLemmas.{related_known}
use Rattle.relation_rows.proofs.Related.{form_in}
use Rattle.relation_rows.proofs.calls.relating.write_traits.Goals as goal

pub relate-answer-requires : goal.relate-answer-requires
relate-answer-requires g c = record {
  can = record {
    lawful = lawful_grows (extends_on c.empty_param_env.ensures.grown c.make_byte_ref.ensures.grown)
        c.args.ctx.now.inner c.requires;
    decides = search rules;
    env_known = search rules;
    lhs_known = search rules;
    rhs_known = search rules;
    fits = tt;
    lhs_taken = search rules;
    rhs_taken = search rules;
    lhs_in = form_in _ _ c.in_ok-lhs.ensures.made _;
    rhs_in = form_in _ _ c.in_ok-lhs.ensures.made _;
  };
}

pub write_answer-requires-clause-known : goal.write_answer-requires-clause-known
write_answer-requires-clause-known g c =
    related_known (g.I.Interner.meaning c.relate-answer.new.self.interner) c.relate-answer.result _
    c.relate-answer.ensures.asks.goals c.relate-answer.ensures.fault.fault_known
