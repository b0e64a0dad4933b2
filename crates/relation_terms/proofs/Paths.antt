-- Equal trees are of equal parts.
use Rattle.std.proofs.Common.{◌≡◌, List}
use Rattle.relation_terms.specs.Heads.{BoundKind, Head, Leaf}
use Rattle.relation_terms.specs.Trees.{Tree, leaf, node, bind, cons}

pub leaf_path : {l m : Leaf} → leaf l ≡ leaf m → l ≡ m
leaf_path e = cc

pub head_path : {h g : Head} {ts us : Tree} → node h ts ≡ node g us → h ≡ g
head_path e = cc

pub parts_path : {h g : Head} {ts us : Tree} → node h ts ≡ node g us → ts ≡ us
parts_path e = cc

pub kinds_path : {ks ls : List BoundKind} {t u : Tree} → bind ks t ≡ bind ls u → ks ≡ ls
kinds_path e = cc

pub bind_path : {ks ls : List BoundKind} {t u : Tree} → bind ks t ≡ bind ls u → t ≡ u
bind_path e = cc

pub first_path : {t u ts us : Tree} → cons t ts ≡ cons u us → t ≡ u
first_path e = cc

pub rest_path : {t u ts us : Tree} → cons t ts ≡ cons u us → ts ≡ us
rest_path e = cc
