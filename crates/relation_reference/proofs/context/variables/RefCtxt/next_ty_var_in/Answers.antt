use Rattle.std.proofs.Common.{◌≡◌, refl, ap, ◌∙◌, [], ◌∷◌, ◌++◌, length}
use Rattle.relation_terms.specs.Heads.{type_var, variable}
use Rattle.relation_terms.specs.Trees.{leaf}
use Rattle.variable_classes.specs.Roots.{root_in}
use Rattle.variable_classes.proofs.Rooted.{root_more}
use Rattle.variable_tables.specs.Tables.{store_of}
use Rattle.variable_tables.proofs.SubRoots.{roots_made, roots_room, roots_lawful}
use Rattle.relation_reference.proofs.Making.{on_err, later_same, refused_lawful, refused_later, refused_store, type_made, type_made_later, type_made_lawful}
use Rattle.relation_reference.proofs.context.variables.RefCtxt.next_ty_var_in.Goals as goal

pub returns-in_err-key-clause-later : goal.returns-in_err-key-clause-later
returns-in_err-key-clause-later g c = later_same _ _ (ap (λ m. store_of m c.args.self.now.inner) c.in_err-key.ensures.refused)

pub returns-in_err-key-clause-refused : goal.returns-in_err-key-clause-refused
returns-in_err-key-clause-refused g c = on_err c.from_residual.result _ (ap (λ m. store_of m c.args.self.now.inner) c.in_err-key.ensures.refused)

pub returns-in_err-reserve-clause-lawful : goal.returns-in_err-reserve-clause-lawful
returns-in_err-reserve-clause-lawful g c = refused_lawful c.in_ok-key.ensures.grown c.args.self.now.inner (record c.args.self.now.inner { sub_roots = c.reserve.new.self }) (record { types = refl; ints = refl; floats = refl; consts = refl; regions = refl; constraints = refl; universe = refl; budget = refl; tainted = refl; numbers = refl; sub_roots = c.in_err-reserve.ensures.items }) c.requires.lawful

pub returns-in_err-reserve-clause-later : goal.returns-in_err-reserve-clause-later
returns-in_err-reserve-clause-later g c = refused_later c.in_ok-key.ensures.grown c.args.self.now.inner (record c.args.self.now.inner { sub_roots = c.reserve.new.self }) (record { types = refl; ints = refl; floats = refl; consts = refl; regions = refl; constraints = refl; universe = refl; budget = refl; tainted = refl; numbers = refl; sub_roots = c.in_err-reserve.ensures.items }) c.requires.lawful

pub returns-in_err-reserve-clause-refused : goal.returns-in_err-reserve-clause-refused
returns-in_err-reserve-clause-refused g c = on_err c.from_residual-in_err-reserve.result _ (refused_store c.in_ok-key.ensures.grown c.args.self.now.inner (record c.args.self.now.inner { sub_roots = c.reserve.new.self }) (record { types = refl; ints = refl; floats = refl; consts = refl; regions = refl; constraints = refl; universe = refl; budget = refl; tainted = refl; numbers = refl; sub_roots = c.in_err-reserve.ensures.items }) c.requires.lawful)

pub returns-in_err-reserve-clause-rest : goal.returns-in_err-reserve-clause-rest
returns-in_err-reserve-clause-rest g c = record {
  setup = refl;
  outliving = refl;
  marks = λ n. ap (λ rs. root_in rs n) c.in_err-reserve.ensures.items;
}

pub returns-in_err-push-clause-lawful : goal.returns-in_err-push-clause-lawful
returns-in_err-push-clause-lawful g c = refused_lawful c.in_ok-key.ensures.grown c.args.self.now.inner (record c.args.self.now.inner { types = c.push.new.self; sub_roots = c.reserve.new.self }) (record { types = c.in_err-push.ensures.items; ints = refl; floats = refl; consts = refl; regions = refl; constraints = refl; universe = refl; budget = refl; tainted = refl; numbers = refl; sub_roots = c.in_ok-reserve.ensures.items }) c.requires.lawful

pub returns-in_err-push-clause-later : goal.returns-in_err-push-clause-later
returns-in_err-push-clause-later g c = refused_later c.in_ok-key.ensures.grown c.args.self.now.inner (record c.args.self.now.inner { types = c.push.new.self; sub_roots = c.reserve.new.self }) (record { types = c.in_err-push.ensures.items; ints = refl; floats = refl; consts = refl; regions = refl; constraints = refl; universe = refl; budget = refl; tainted = refl; numbers = refl; sub_roots = c.in_ok-reserve.ensures.items }) c.requires.lawful

pub returns-in_err-push-clause-refused : goal.returns-in_err-push-clause-refused
returns-in_err-push-clause-refused g c = on_err c.from_residual-in_err-push.result _ (refused_store c.in_ok-key.ensures.grown c.args.self.now.inner (record c.args.self.now.inner { types = c.push.new.self; sub_roots = c.reserve.new.self }) (record { types = c.in_err-push.ensures.items; ints = refl; floats = refl; consts = refl; regions = refl; constraints = refl; universe = refl; budget = refl; tainted = refl; numbers = refl; sub_roots = c.in_ok-reserve.ensures.items }) c.requires.lawful)

pub returns-in_err-push-clause-rest : goal.returns-in_err-push-clause-rest
returns-in_err-push-clause-rest g c = record {
  setup = refl;
  outliving = refl;
  marks = λ n. ap (λ rs. root_in rs n) c.in_ok-reserve.ensures.items;
}

pub returns-clause-rest : goal.returns-clause-rest
returns-clause-rest g c =
    let rs = c.args.self.now.inner.sub_roots.items in
    let grown : c.push_reserved.new.self.items ≡ rs ++ length rs ∷ [] = c.push_reserved.ensures.items
    ∙ ap (λ zs. zs ++ length zs ∷ []) c.in_ok-reserve.ensures.items in
    record { setup = refl; outliving = refl; marks = λ n. ap (λ zs. root_in zs n) grown ∙ root_more rs n }

pub returns-clause-lawful : goal.returns-clause-lawful
returns-clause-lawful g c =
    let x = c.args.self.now.inner in
    let l = c.requires.lawful in
    let m = g.I.Interner.meaning c.args.self.now.interner in
    let rs = c.push_reserved.new.self in
    let grown : rs.items ≡ x.sub_roots.items ++ length x.sub_roots.items ∷ [] = c.push_reserved.ensures.items
    ∙ ap (λ zs. zs ++ length zs ∷ []) c.in_ok-reserve.ensures.items in
    let z = record x { sub_roots = rs } in
    let number = c.len-number.ensures in
    type_made_lawful c.in_ok-key.ensures.grown z (roots_lawful m x rs (roots_made m x rs grown l.sub_rooted) l) c.push.new.self _
    c.in_ok-push.ensures.items refl (c.args.universe).0 c.requires.below refl
    (c.in_ok-key.ensures.made ∙ ap (λ n. leaf (variable type_var n)) number) (roots_room m x rs grown l.sub_rooted)

pub returns-clause-later : goal.returns-clause-later
returns-clause-later g c = type_made_later c.in_ok-key.ensures.grown c.args.self.now.inner c.requires.lawful c.push.new.self _ c.in_ok-push.ensures.items refl (c.args.universe).0 c.requires.below refl
    (c.in_ok-key.ensures.made ∙ ap (λ n. leaf (variable type_var n)) c.len-number.ensures)

pub returns-clause-makes : goal.returns-clause-makes
returns-clause-makes g c = type_made c.in_ok-key.ensures.grown c.args.self.now.inner c.requires.lawful c.push.new.self _ c.in_ok-push.ensures.items refl (c.args.universe).0 c.requires.below refl
    (c.in_ok-key.ensures.made ∙ ap (λ n. leaf (variable type_var n)) c.len-number.ensures)
