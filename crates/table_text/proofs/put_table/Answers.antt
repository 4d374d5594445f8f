use native.Mathlib.Omega.{arith}
use Rattle.text.specs.Putting.{puts_two}
use Rattle.table_text.specs.TableText.{text_of_table}
use Rattle.table_text.specs.Widths.{well_short}
use Rattle.table_text.proofs.put_table.Goals as goal

pub put_anchors-b-requires : goal.put_anchors-b-requires
put_anchors-b-requires c =
    let s = c.before in
    (omega arith, omega arith, omega arith, well_short _ _ _ _ s.requires.0)

pub returns : goal.returns
unfolding text_of_table
returns c = (
  puts_two _ _ _ _ _ _ _ _ c.put_head-a.ensures.0 (puts_two _ _ _ _ _ _ _ _ c.put_anchors-b.ensures.0 (puts_two _ _ _ _ _ _ _ _ c.put_figures-c.ensures.0 c.put_line.ensures.0)),
  omega arith,
)
