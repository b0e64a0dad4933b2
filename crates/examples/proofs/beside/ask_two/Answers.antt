-- What the test says of each rule meets what is asked for.
use Rattle.std.proofs.Common.{rules, IsTrue, All}
use Rattle.std.proofs.lemmas.List.Elements.{All-weaker, All-contains}
use Rattle.relation_proving.specs.Checking.{IsProvableRule}
use Rattle.relation_proving.specs.RuleTerms.{MayUse}
use Rattle.examples.proofs.beside.ask_two.Goals as goal

pub impls_overlap-requires : goal.impls_overlap-requires
impls_overlap-requires g c =
    let s = g.C.InferCtxtLike.state c.args.ctx.now in
    let are : IsTrue c.in-Ok.may = (let i = c.if-not-may.false in search rules) in
    let may : All (MayUse s) c.args.impls.now = All-weaker (IsProvableRule s) (MayUse s) (λ k r. r.may) c.args.impls.now
    (c.in-Ok.ensures.0 are) in
    record {
      may = record { lawful = c.requires.lawful; env_known = c.requires.env_known; rules = may };
      left = All-contains (MayUse s) c.args.impls.now c.args.left may c.requires.left;
      right = All-contains (MayUse s) c.args.impls.now c.args.right may c.requires.right;
    }
