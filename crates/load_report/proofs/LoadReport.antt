-- What a load is to the rest of the program: its table has one anchor, at every cut (`one_anchor`), and is whole in two lists of equal length that have an entry (`whole_table`); one partition is walked where it is cut at the longest period (`one_partition`),
-- and chainreport prints, for the file that chainload writes, the table of the very chain that the seed makes, never a refusal (`load_report_holds`). `check_for_c` and `table_for_c` say it of mo_load, mo_check and mo_make_table.
use Rattle.std.specs.Prelude.{ℕ, ◌-◌, ◌/◌, ◌≤◌, ◌<◌, ◌≡◌, refl, length, get_or, Ok, Result}
use Rattle.std.specs.Int.{◌∣◌}
use Rattle.std.proofs.Common.{arith, sym, ◌∙◌}
use Rattle.std.proofs.Math.Nat.{div_self, pos_of_dvd_of_pos}
use Rattle.std.proofs.Math.Path.{ap}
use mathlib.Core.List.{List, [], ◌∷◌, ◌++◌, append-nil}
use Rattle.std.proofs.lemmas.List.{length-map}
use Rattle.maker.specs.declared.Unmade.{Unmade}
use Rattle.maker.specs.declared.Figures.{Figures}
use Rattle.task.specs.declared.Place.{Place}
use Rattle.task.specs.Jobs.{place_of}
use Rattle.chain.specs.declared.Chain.{Chain}
use Rattle.chain.specs.Chains.{given_of, tasks_of, at}
use Rattle.chain.specs.Hyperperiod.{hyper_of}
use Rattle.schedule.specs.Schedules.{chain_at}
use Rattle.chain.proofs.CheckLaws.{Facts, accepted}
use Rattle.timing.specs.WarmUp.{warm_at}
use Rattle.partition.specs.Partitions.{range_of}
use Rattle.partition.specs.Selections.{range_length}
use Rattle.partition.proofs.CutFree.{cut_canonical}
use Rattle.maker.specs.Making.{figures_of, made_of, written_of}
use Rattle.agreement.specs.ReadsAsWalk.{canonical_cons}
use Rattle.agreement.specs.EveryChain.{Asked, anchor_count, count_few, room_enough}
use Rattle.latency.specs.LongestPlace.{longest_place, Longest, longest_place_holds}
use Rattle.text.specs.Text.{ascii, line}
use Rattle.table_text.specs.TableText.{text_of_table}
use Rattle.report.specs.Report.{made_text, chain_text, part_text, parts_text, schedule_text, file_text, report_of}
use Rattle.capi_chain.specs.FlatChain.{chain_from}
use Rattle.capi_timing.specs.Calls.{verdict_code, verdict_hyper, GivesCheck}
use Rattle.capi_maker.specs.Calls.{made_code, made_numbers, GivesTable}
use Rattle.capi_load.specs.Calls.{GivesLoad}
use Rattle.capi_load.specs.Passes.{places_for_c, chain_for_c, passes_for_c}
use Rattle.load.specs.Load.{loaded}
use Rattle.load.proofs.Passes.{tasks_length, twelve_tasks, given, passes, hyper_divides, hyper_longest}
use Rattle.load_file.specs.LoadFile.{alone_of, file_of_load}
use Rattle.load_file.specs.ReadBack.{load_read, load_chain}

module _ (seed places : ℕ) (low : 1 ≤ places) (high : places ≤ 12) where
  -- the chain that the seed makes: `made` in load/proofs/Passes
  abbrev c : Chain
  c = loaded seed places

  abbrev l : List Place
  l = tasks_of c

  -- its hyperperiod
  abbrev h : ℕ
  h = hyper_of l

  -- the place of the longest period, counted from 0
  abbrev q : ℕ
  q = longest_place l - 1

  counted : length l ≡ places
  counted = length-map (given_of c) (place_of c.gap) ∙ ap length (given seed places low high) ∙ tasks_length places seed

  longest : Longest l (longest_place l)
  longest = longest_place_holds l (omega (arith, counted))

  once : h / (at l q).period ≡ 1
  once =
      let e : h ≡ (at l q).period = hyper_longest seed places low high q (omega (arith, longest.some, longest.inside)) longest.longest in
      ap (λ (x : ℕ). h / x) (sym e) ∙ div_self (pos_of_dvd_of_pos (hyper_divides seed places low high) (omega arith))

  pub one_partition : length (range_of l q h) ≡ 1
  one_partition = range_length (warm_at l q) (h / (at l q).period) ∙ once

  module _ (p : ℕ) (from : 1 ≤ p) (to : p ≤ places) where
    asked : (a : ℕ) → Asked c p h a a
    asked a = record { accepted = passes seed places low high; low = from; high = to; equal = refl }

    inside : q < c.places
    inside = omega (arith, longest.some, longest.inside, counted)

    facts : Facts c h
    facts = accepted c h (twelve_tasks seed places low high) (passes seed places low high)

    -- every table has a first anchor
    some_anchor : 1 ≤ anchor_count c p h
    some_anchor =
        let s = facts.passes.sound in
        rw (cut_canonical l s (p - 1) (omega (arith, counted)), canonical_cons l s) (omega arith)

    pub one_anchor : anchor_count c p h ≡ 1
    one_anchor = omega (arith, once, some_anchor, count_few c p h 1 1 (asked 1) (twelve_tasks seed places low high) q inside)

    -- Lists of one entry, or of more, hold it. What follows cites `table_whole`, so that an edit of the theorem is refused at the theorem.
    table_whole : (a : ℕ) → 1 ≤ a → made_of c p a a ≡ Ok (figures_of c p h)
    table_whole a some = room_enough c p h a a (asked a) (twelve_tasks seed places low high) q inside (omega (arith, once))

    pub whole_table : (a : ℕ) → 1 ≤ a → made_of c p a a ≡ Ok (figures_of c p h)
    whole_table a some = table_whole a some

  -- The report of its file.
  pub load_report_holds : report_of (file_of_load seed places) ≡ line (ascii "chain") (1 ∷ []) ++ text_of_table (figures_of c (longest_place l) h) (written_of c (longest_place l) 1024 1024)
  unfolding file_text schedule_text parts_text part_text chain_text made_text
  load_report_holds =
      ap file_text (load_read seed places low high)
      ∙ append-nil (part_text 1024 1 (chain_at (alone_of c) 1))
      ∙ ap (part_text 1024 1) (load_chain seed places low high)
      ∙ ap (λ (m : Result Figures Unmade). line (ascii "chain") (1 ∷ []) ++ made_text m (written_of c (longest_place l) 1024 1024)) (table_whole (longest_place l) longest.some (omega (arith, longest.inside, counted)) 1024 (omega arith))

-- The same for C, of what mo_load gives with code 0.
module _ (seed places code : ℕ) (tasks : List ℕ) (gives : GivesLoad seed places code tasks) (fine : code ≡ 0) where
  -- mo_check answers 0 and a hyperperiod that divides 80,000,
  pub check_for_c : (code' hyperperiod : ℕ) → GivesCheck (chain_from tasks places 0) code' hyperperiod → (code' ≡ 0) × (hyperperiod ≡ hyper_of (tasks_of (chain_from tasks places 0))) × (hyperperiod ∣ 80000)
  check_for_c code' hyperperiod checks =
      let k = passes_for_c seed places code tasks gives fine in
      let e : hyperperiod ≡ hyper_of (tasks_of (chain_from tasks places 0)) = checks.1 ∙ ap verdict_hyper k.0 in
      (checks.0 ∙ ap verdict_code k.0, e, rw e k.1)

  -- and mo_make_table makes a table of one anchor at each place, in lists of one entry or more.
  pub table_for_c : (p : ℕ) → 1 ≤ p → p ≤ places → (s v : List ℕ) → length s ≡ length v → 1 ≤ length s
      → (code' : ℕ) (s' v' figures : List ℕ) → GivesTable (chain_from tasks places 0) p s v code' s' v' figures → (code' ≡ 0) × (get_or figures 0 0 ≡ 1)
  table_for_c p from to s v equal some code' s' v' figures table =
      let k = places_for_c seed places code tasks gives fine in
      let whole : made_of (chain_from tasks places 0) p (length s) (length v) ≡ Ok (figures_of (c seed places k.0 k.1) p (h seed places k.0 k.1))
      = ap (λ (x : Chain). made_of x p (length s) (length v)) (chain_for_c seed places code tasks gives fine) ∙ ap (made_of (loaded seed places) p (length s)) (sym equal)
      ∙ table_whole seed places k.0 k.1 p from to (length s) some in (
        table.answers ∙ ap made_code whole,
        ap (λ (l : List ℕ). get_or l 0 0) (table.gives_figures ∙ ap made_numbers whole) ∙ one_anchor seed places k.0 k.1 p from to,
      )
