use Rattle.reader.proofs.Itemising.{remarks_on, comment_ends}
use Rattle.reader.proofs.items.comment_end.Goals as goal

pub keyword-requires : goal.keyword-requires
keyword-requires c = rw c.remarks_end.ensures (remarks_on c.args.text.now c.args.at c.requires)

pub returns : goal.returns
returns c = comment_ends _ _ c.remarks_end.ensures c.keyword.ensures
