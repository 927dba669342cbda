-- `mend::whole::put_next` meets its contract.
-- Assumes nothing.
use Rattle.mend.proofs.Putting.{end_room, put_listed, put_unlisted}
use Rattle.mend.proofs.whole.put_next.Goals as goal

pub lay-filled-requires : goal.lay-filled-requires
lay-filled-requires c = end_room c.args.line.now c.args.end.now c.args.held c.args.out.now c.args.list.now c.requires c.lay_line-noted.result c.lay_line-noted.new.out c.lay_line-noted.ensures

pub returns-in-Some : goal.returns-in-Some
returns-in-Some c = put_listed c.args.line.now c.args.end.now c.args.held c.args.out.now c.args.list.now c.requires c.lay_line-noted.result c.lay_line-noted.new.out c.lay_line-noted.ensures c.lay-filled.result c.lay-filled.new.out c.lay-filled.ensures.0 c.lay-filled.ensures.1 c.in-Some.entry c.in-Some.is c.enter.result c.enter.new.list c.enter.ensures

pub returns-in-None : goal.returns-in-None
returns-in-None c = put_unlisted c.args.line.now c.args.end.now c.args.held c.args.out.now c.args.list.now c.requires c.lay_line-noted.result c.lay_line-noted.new.out c.lay_line-noted.ensures c.lay-filled.result c.lay-filled.new.out c.lay-filled.ensures.0 c.lay-filled.ensures.1 c.in-None.is
