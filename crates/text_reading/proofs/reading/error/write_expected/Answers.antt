use Rattle.text_reading.proofs.WriteLemmas.{text_written}
use Rattle.text_reading.proofs.reading.error.write_expected.Goals as goal

pub returns-in-Statement : goal.returns-in-Statement
returns-in-Statement g c = rw c.in-Statement.is (text_written g.W.Write.write_str_gives _ _ _ _ c.write_str.ensures.ok)

pub returns-in-AnyVariable : goal.returns-in-AnyVariable
returns-in-AnyVariable g c = rw c.in-AnyVariable.is (text_written g.W.Write.write_str_gives _ _ _ _ c.write_str-in-AnyVariable.ensures.ok)

pub returns-in-Parameter : goal.returns-in-Parameter
returns-in-Parameter g c = rw c.in-Parameter.is (text_written g.W.Write.write_str_gives _ _ _ _ c.write_str-in-Parameter.ensures.ok)

pub returns-in-Relation : goal.returns-in-Relation
returns-in-Relation g c = rw c.in-Relation.is (text_written g.W.Write.write_str_gives _ _ _ _ c.write_str-in-Relation.ensures.ok)

pub returns-in-Bound : goal.returns-in-Bound
returns-in-Bound g c = rw c.in-Bound.is (text_written g.W.Write.write_str_gives _ _ _ _ c.write_str-in-Bound.ensures.ok)

pub returns-in-Const : goal.returns-in-Const
returns-in-Const g c = rw c.in-Const.is (text_written g.W.Write.write_str_gives _ _ _ _ c.write_str-in-Const.ensures.ok)

pub returns-in-BoundConst : goal.returns-in-BoundConst
returns-in-BoundConst g c = rw c.in-BoundConst.is (text_written g.W.Write.write_str_gives _ _ _ _ c.write_str-in-BoundConst.ensures.ok)
