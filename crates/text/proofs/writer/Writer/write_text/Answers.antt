use Rattle.text.proofs.Laws.{left_grows, left_inside, left_judged}
use Rattle.text.proofs.writer.Writer.write_text.Goals as goal

pub returns : goal.returns
returns c = record {
  same_list = c.write_all.ensures.same_list;
  text = c.write_all.ensures.text;
  grows = left_grows _ _ _ _ c.write_all.ensures.text;
  inside = left_inside _ _ _ _ c.write_all.ensures.text;
  judged = left_judged _ _ _ _ c.write_all.ensures.text;
}
