use native.Mathlib.Omega.{arith}
use Prim.Native.Nat.{◌+◌, ◌-◌}
use mathlib.Core.Path.{◌≡◌, refl, sym}
use Rattle.chain.specs.Flat.{tasks_in}
use Rattle.ranges.proofs.LargestLaws.{largest_none, largest_more}
use Rattle.windows.specs.Windows.{misses, window_of}
use Rattle.windows.specs.Sliding.{none_yet, enters, leaves, grows, at_most}
use Rattle.windows.proofs.Ends.{flag_small, write_small, number_small}
use Rattle.windows.proofs.Rings.{ring_none, ring_leaves, ring_first, ring_enters, next_inside, before_more}
use Rattle.windows.proofs.scan.Goals as goal

pub starts-init : goal.starts-init
starts-init c =
    let p = c.requires in
    let z : c.args.from.0 - c.args.from.0 ≡ 0 = omega arith in
    (omega arith, omega (arith, p.3), omega arith, omega (arith, p.1), omega (arith, p.1), ring_none _ _ _ _ refl, none_yet _ _, λ x a b. absurd (omega arith), rw z (sym (largest_none _ _)))

pub jobs-init : goal.jobs-init
jobs-init c = let o = c.starts.invariant in (o.2, omega (arith, o.3), o.4, o.5, o.6, λ h. absurd (omega arith))

pub overflow_add-s : goal.overflow_add-s
overflow_add-s c =
    let o = c.before in
    let s = o.before in
    omega (arith, number_small _ s.requires.0 (o.starts.s.0 + s.args.k) _ (omega arith) s.requires.4)

pub missed-new-requires : goal.missed-new-requires
missed-new-requires c =
    let s = c.before in
    (s.requires.0, write_small _ s.requires.0 _ _ (omega arith) s.requires.4)

pub overflow_add-count : goal.overflow_add-count
overflow_add-count c =
    let l = c.before in
    let s = l.before in
    omega (arith, flag_small _ _ _ _ c.missed-new.ensures, l.jobs.invariant.4, at_most (misses (tasks_in s.args.gap s.args.tasks.now) s.args.b) (l.jobs.j.0 - l.starts.s.0) l.starts.s.0, s.requires.2)

pub overflow_add-j : goal.overflow_add-j
overflow_add-j c =
    let l = c.before in
    let s = l.before in
    omega (arith, number_small _ s.requires.0 l.jobs.j.0 _ (omega arith) s.requires.4)

pub jobs-preserved : goal.jobs-preserved
jobs-preserved c =
    let l = c.before in
    let o = l.before in
    let s = o.before in
    let new = c.missed-new.ensures in (
      omega arith,
      omega arith,
      rw c.next_in-i.ensures (next_inside l.jobs.i s.args.k l.jobs.invariant.2),
      rw c.next_in-i.ensures (ring_enters _ _ _ _ _ _ l.jobs.invariant.3 l.jobs.invariant.2 s.requires.2 _ new),
      omega (arith, new, l.jobs.invariant.4, enters (misses (tasks_in s.args.gap s.args.tasks.now) s.args.b) o.starts.s.0 l.jobs.j.0 l.jobs.invariant.0),
      λ h. c.if-goal-count.false,
    )

pub overflow_sub-count : goal.overflow_sub-count
overflow_sub-count c =
    let l = c.before in
    let o = l.before in
    let s = o.before in
    let whole : l.jobs.j.0 ≡ o.starts.s.0 + s.args.k = omega arith in
    omega (arith, l.jobs.invariant.4, ring_first _ _ _ _ _ _ l.jobs.invariant.3 l.jobs.invariant.2 whole, leaves (misses (tasks_in s.args.gap s.args.tasks.now) s.args.b) o.starts.s.0 l.jobs.j.0 (omega (arith, s.requires.1)))

pub overflow_add-s-in-starts : goal.overflow_add-s-in-starts
overflow_add-s-in-starts c =
    let o = c.before in
    let s = o.before in
    omega (arith, number_small _ s.requires.0 (o.starts.s.0 + 1) _ (omega (arith, s.requires.1)) s.requires.4)

pub starts-preserved : goal.starts-preserved
starts-preserved c =
    let l = c.before in
    let o = l.before in
    let s = o.before in
    let miss = misses (tasks_in s.args.gap s.args.tasks.now) s.args.b in
    let f = window_of (tasks_in s.args.gap s.args.tasks.now) s.args.b s.args.k in
    let whole : l.jobs.j.0 ≡ o.starts.s.0 + s.args.k = omega arith in
    let all : l.jobs.j.0 - o.starts.s.0 ≡ s.args.k = omega arith in
    let has : l.jobs.count ≡ f o.starts.s.0 = rw all at l.jobs.invariant.4 in (
      omega (arith, o.starts.invariant.0),
      omega arith,
      omega (arith, s.requires.1),
      omega (arith, s.requires.1),
      l.jobs.invariant.2,
      ring_leaves _ _ _ _ _ _ l.jobs.invariant.3,
      omega (arith, l.jobs.invariant.4, ring_first _ _ _ _ _ _ l.jobs.invariant.3 l.jobs.invariant.2 whole, leaves miss o.starts.s.0 l.jobs.j.0 (omega (arith, s.requires.1))),
      before_more f _ _ _ _ has o.starts.invariant.7 (l.jobs.invariant.5 (omega (arith, o.starts.invariant.3))),
      omega (arith, has, o.starts.invariant.8, largest_more f _ _ o.starts.invariant.0),
    )

pub returns-after-starts : goal.returns-after-starts
returns-after-starts c =
    let o = c.starts.invariant in
    record { low = o.0; high = o.1; before = o.7; reached = λ h. absurd (omega arith); most_is = o.8 }

pub returns-then-goal-count : goal.returns-then-goal-count
returns-then-goal-count c =
    let l = c.before in
    let o = l.before in
    let s = o.before in
    let miss = misses (tasks_in s.args.gap s.args.tasks.now) s.args.b in
    let count = enters miss o.starts.s.0 l.jobs.j.0 l.jobs.invariant.0 in
    let more = grows miss o.starts.s.0 (l.jobs.j.0 + 1 - o.starts.s.0) s.args.k (omega arith) in
    record {
      low = o.starts.invariant.0;
      high = o.starts.invariant.1;
      before = o.starts.invariant.7;
      reached = λ h. omega (arith, c.if-goal-count.true, c.missed-new.ensures, l.jobs.invariant.4, count, more);
      most_is = o.starts.invariant.8;
    }
