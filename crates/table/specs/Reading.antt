-- Document 01, "Reading a table": the delay that a table gives at a tick, and what the call answers.
use Rattle.std.specs.Prelude.{◌≡◌, cond, List, [], ◌∷◌, ℕ, ◌+◌, ◌-◌, ◌%◌, leb, ltb, Err, Ok, Result}
use Rattle.refusal.specs.declared.Refusal.{Refusal}
use Rattle.refusal.specs.Refusals.{refusal}
use Rattle.table.specs.Anchors.{Anchor, anchors, first_start}
use Rattle.table.specs.WellFormed.{well_formed}

-- The last anchor whose start is at most u: x, or a later one of l.
unfoldable pub last_at : ℕ → Anchor → List Anchor → Anchor
last_at u x [] = x
last_at u x (y ∷ l) = last_at u (cond (leb y.start u) y x) l

-- What an anchor gives at u: its latency less (u - its start).
abbrev pub gives : ℕ → Anchor → ℕ
gives u x = x.latency - (u - x.start)

-- With r the remainder of t - first start by H: what the last anchor whose start is at most first start + r gives there.
unfoldable pub delay_at : ℕ → List Anchor → ℕ → ℕ
delay_at H [] t = 0
delay_at H (x ∷ l) t = let u : ℕ = x.start + (t - x.start) % H in gives u (last_at u x l)

-- The upper tick.
abbrev pub upper_tick : ℕ
upper_tick = 1000000000000

-- The check that the calls on a table begin with. 14: not well-formed.
abbrev pub checked : List ℕ → List ℕ → ℕ → ℕ → Result (Unit {0}) Refusal
checked starts latencies g H = cond (well_formed starts latencies g H) (Ok tt) (Err (refusal 14 0))

-- Reading a table at t. 14: not well-formed; 12: t below first start; 13: t above the upper tick; else the delay.
unfoldable pub reading : List ℕ → List ℕ → ℕ → ℕ → ℕ → Result ℕ Refusal
reading starts latencies g H t =
    cond (well_formed starts latencies g H)
    (cond (ltb t (first_start (anchors starts latencies g)))
    (Err (refusal 12 0))
    (cond (ltb upper_tick t) (Err (refusal 13 0)) (Ok (delay_at H (anchors starts latencies g) t))))
    (Err (refusal 14 0))

-- The answer for C, one number: the delay, or 2^32 + the refusal's number. That a delay lies below 2^32 is `word_small` in Words.
abbrev pub word_of : Result ℕ Refusal → ℕ
word_of (Ok d) = d
word_of (Err r) = 4294967296 + r.number

-- The call for C.
abbrev pub GivesWord : List ℕ → List ℕ → ℕ → ℕ → ℕ → ℕ → Type 0
GivesWord starts latencies g H t word = word ≡ word_of (reading starts latencies g H t)
