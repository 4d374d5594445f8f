use Rattle.std.proofs.Common.{◌+◌, ◌<◌, ◌≡◌, ◌++◌, ◌∷◌, [], arith, rules, get_or-take, length, take, ◌∙◌, length-append, length-take-le}
use Rattle.std.proofs.lemmas.Slice.Zip.{zip_turn, zip_end}
use Rattle.text.specs.Putting.{puts_length}
use Rattle.table_text.proofs.Lines.{anchor_turn, anchor_end}
use Rattle.table_text.specs.Widths.{anchor_short}
use Rattle.table_text.proofs.put_anchors.Goals as goal

pub loop-start-preserved : goal.loop-start-preserved
loop-start-preserved c =
    let a = c.args in
    let l = c.loop-start in
    let i = length l.yielded in
    let t = zip_turn (take a.t.anchors a.t.starts.now) (take a.t.anchors a.t.latencies.now) l.yielded _ _ c.next.new.self c.next.result (search rules) (search rules) l.yielded_by (c.in-Some.start, c.in-Some.latency) c.in-Some.is (search rules) in
    let here : i < a.t.anchors = omega (arith, t.0, length-take-le a.t.anchors a.t.starts.now c.requires.0) in
    let next : length (l.yielded ++ ((c.in-Some.start, c.in-Some.latency) ∷ [])) ≡ i + 1 = length-append l.yielded _ in
    let few = c.requires.3 i here in
    let s : c.in-Some.start.now < 10000000000 = omega (arith, few.0, t.2 0, get_or-take a.t.anchors a.t.starts.now i 0 here) in
    let v : c.in-Some.latency.now < 100000000 = omega (arith, few.1, t.3 0, get_or-take a.t.anchors a.t.latencies.now i 0 here) in
    let p = c.put_pair-end.ensures.0 in
    rw next record {
      left = anchor_turn a.t.starts.now a.t.latencies.now a.t.anchors c.requires.0 c.requires.1 i c.in-Some.start.now c.in-Some.latency.now here (t.2 0) (t.3 0) _ _ _ _ _ _ _ l.invariant.left p;
      short = omega (arith, p.ends, anchor_short _ _ s v);
      kept = puts_length _ _ _ _ _ p ∙ l.invariant.kept;
    }

pub returns : goal.returns
returns c =
    let a = c.args in
    let l = c.loop-start in
    let t = zip_end (take a.t.anchors a.t.starts.now) (take a.t.anchors a.t.latencies.now) l.yielded _ _ c.next.new.self c.next.result (search rules) (search rules) l.yielded_by c.in-None.is (search rules) in
    let all : length l.yielded ≡ a.t.anchors = omega (arith, t, length-take-le a.t.anchors a.t.starts.now c.requires.0, length-take-le a.t.anchors a.t.latencies.now c.requires.1) in
    (anchor_end a.t.starts.now a.t.latencies.now a.t.anchors _ all _ _ _ _ _ l.invariant.left, omega arith)
