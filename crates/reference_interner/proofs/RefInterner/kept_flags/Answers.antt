use Rattle.std.proofs.Common.{◌<◌, sym, ◌∙◌, subst}
use Rattle.reference_interner.proofs.TableLemmas.{key_in}
use Rattle.reference_interner.proofs.FlagLemmas.{flags_there, flags_read}
use Rattle.reference_interner.specs.Adding.{items_in}
use Rattle.reference_interner.proofs.RefInterner.kept_flags.Goals as goal

pub index-requires : goal.index-requires
index-requires c =
    let s = c.args.self.now in
    let i = (c.args.key.now).0 in
    subst (λ n. i < n) (sym (s.flags.ok.0 ∙ flags_there s.nodes s.flags.items s.flagged))
    (key_in (items_in s) s.nodes c.requires.0 i c.requires.1)

pub returns : goal.returns
returns c = λ s k.
    let r = c.args.self.now in
    c.index.ensures ∙
    flags_read (items_in r) r.nodes r.flags.items r.flagged s (c.args.key.now).0 c.index.result.now k
