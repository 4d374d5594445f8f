-- One cut, for any gap: said of three walks, of the first section, of the second, and of the whole, where a job of the whole goes on in the second section at the first job that reads
-- at or after the first section's end + gap.
use Rattle.std.specs.Prelude.{ℕ, ◌+◌, ◌-◌, ◌≤◌, ◌<◌, ◌≡◌}
use Rattle.std.proofs.Common.{arith, sym, ap, ◌∙◌}
use Rattle.std.proofs.Math.Decide.{dec_lt}
use Rattle.task.specs.declared.Place.{Place}
use Rattle.task.specs.Jobs.{read_of}
use Rattle.task.specs.Links.{earliest_from, earliest_after}
use Rattle.task.proofs.LinkLaws.{after_less}

-- What is known of a chain: its first task, where the way from a job comes (w) and ends (e), its warm-up tick and its greatest latency.
pub record Walks (a : Place) (w e : ℕ → ℕ) (x G : ℕ) : Type 0 where
  pub pos : 1 ≤ a.period
  pub mono : (i j : ℕ) → i ≤ j → w i ≤ w j
  pub ends : (i j : ℕ) → w i ≡ w j → e i ≡ e j
  pub after : (j : ℕ) → read_of a j < e j
  -- a press is warm exactly when its way comes later than that of job 0
  pub comes : (t : ℕ) → x ≤ t → w 0 < w (earliest_after a t)
  pub warm : (t : ℕ) → w 0 < w (earliest_after a t) → x ≤ t
  pub bound : (t : ℕ) → x ≤ t → e (earliest_after a t) - t ≤ G
  pub at : ℕ
  pub late : x ≤ at
  pub meets : e (earliest_after a at) - at ≡ G

-- over plain numbers: the press at t, its end b in the first section, the end e in the second
together : (t b e gap Gu Gv G : ℕ) → t < b → b - t ≤ Gu → e - (b + gap - 1) ≤ Gv → e - t ≡ G → G + 1 ≤ Gu + gap + Gv
together t b e gap Gu Gv G h k l m = omega arith

module _ (a b : Place) (wu eu wv ev wl el : ℕ → ℕ) (xu Gu xv Gv xl Gl gap : ℕ) (first : Walks a wu eu xu Gu) (second : Walks b wv ev xv Gv) (whole : Walks a wl el xl Gl)
    (way : (j : ℕ) → wl j ≡ wv (earliest_from b (eu j + gap))) (end : (j : ℕ) → el j ≡ ev (earliest_from b (eu j + gap)))
  where
    abbrev t : ℕ
    t = whole.at

    abbrev j : ℕ
    j = earliest_after a t

    -- the tick just before the second section may read
    abbrev z : ℕ
    z = eu j + gap - 1

    first_comes : wu 0 < wu j
    first_comes = elim (dec_lt (wu 0) (wu j)) [
      | yes h ↦ h
      | no h ↦
          let e : eu j ≡ eu 0 = first.ends j 0 (omega (arith, first.mono 0 j (omega arith))) in
          let f : wl j ≡ wl 0 = way j ∙ ap (λ (x : ℕ). wv (earliest_from b (x + gap))) e ∙ sym (way 0) in
          absurd (omega (arith, whole.comes t whole.late))
    ]

    booked : t < eu j
    booked = elim (dec_lt t (read_of a j)) [
      | yes h ↦ omega (arith, first.after j)
      | no h ↦ let q = (after_less a first.pos t j).1 (omega arith) in absurd (omega arith)
    ]

    on : earliest_from b (eu j + gap) ≡ earliest_after b z
    on = let e : eu j + gap ≡ z + 1 = omega (arith, booked) in ap (earliest_from b) e

    second_comes : wv 0 < wv (earliest_after b z)
    second_comes =
        let e : wl j ≡ wv (earliest_after b z) = way j ∙ ap wv on in
        omega (arith, whole.comes t whole.late, way 0, second.mono 0 (earliest_from b (eu 0 + gap)) (omega arith))

    -- The greatest latency of the whole is below the sum of the two and the gap.
    pub one_cut : Gl + 1 ≤ Gu + gap + Gv
    one_cut =
        together t (eu j) (ev (earliest_after b z)) gap Gu Gv Gl booked (first.bound t (first.warm t first_comes)) (second.bound z (second.warm z second_comes))
        (ap (λ (x : ℕ). x - t) (sym (end j ∙ ap ev on)) ∙ whole.meets)
