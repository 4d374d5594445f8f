-- Document 01, program `chainreport`, with order 1 of document 02: the whole text for the bytes of a schedule file.
use Rattle.std.specs.Prelude.{ℕ, zero, suc, ◌≤◌, ◌≡◌, List, [], ◌∷◌, ◌++◌, length, Err, Ok, Result}
use Rattle.maker.specs.declared.Unmade.TheVariants.{Refused, Short}
use Rattle.maker.specs.declared.Unmade.{Unmade}
use Rattle.maker.specs.declared.Figures.{Figures}
use Rattle.refusal.specs.declared.Refusal.{Refusal}
use Rattle.refusal.specs.Refusals.{refusal}
use Rattle.chain.specs.declared.Chain.{Chain}
use Rattle.chain.specs.Chains.{tasks_of}
use Rattle.schedule.specs.declared.Schedule.{Schedule}
use Rattle.schedule.specs.Schedules.{chain_at}
use Rattle.file_reader.specs.Reading.{read_file}
use Rattle.table.specs.Anchors.{Anchor}
use Rattle.maker.specs.Making.{made_of, written_of, overlay}
use Rattle.latency.specs.LongestPlace.{longest_place}
use Rattle.text.specs.Text.{ascii, line}
use Rattle.table_text.specs.TableText.{refused_text, text_of_table}

-- What making answered. Where the slots do not hold all anchors the one line is that of 11, which has no place.
unfoldable pub made_text : Result Figures Unmade → List Anchor → List ℕ
made_text (Ok f) l = text_of_table f l
made_text (Err (Short f)) l = refused_text (refusal 11 0)
made_text (Err (Refused r)) l = refused_text r

-- A chain is cut at the longest period and made with so many slots.
unfoldable pub chain_text : ℕ → Chain → List ℕ
chain_text slots c = made_text (made_of c (longest_place (tasks_of c)) slots slots) (written_of c (longest_place (tasks_of c)) slots slots)

-- The report prints each chain in turn under a line `chain N`, also where there is one chain; a refused chain has its refusal line there and the next chain follows.
unfoldable pub part_text : ℕ → ℕ → Chain → List ℕ
part_text slots n c = line (ascii "chain") (n ∷ []) ++ chain_text slots c

-- the parts of so many chains from chain n on,
unfoldable pub parts_text : ℕ → Schedule → ℕ → ℕ → List ℕ
parts_text slots s n zero = []
parts_text slots s n (suc more) = part_text slots n (chain_at s n) ++ parts_text slots s (suc n) more

-- and of all.
unfoldable pub schedule_text : ℕ → Schedule → List ℕ
schedule_text slots s = parts_text slots s 1 s.chains

-- A file that is read has the text of its chains, each made with 1,024 slots; else the one line of the refusal.
unfoldable pub file_text : Result Schedule Refusal → List ℕ
file_text (Ok s) = schedule_text 1024 s
file_text (Err r) = refused_text r

-- The whole text for the bytes of a file.
abbrev pub report_of : List ℕ → List ℕ
report_of bytes = file_text (read_file bytes)

-- No report is longer.
abbrev pub longest_text : ℕ
longest_text = 92000

-- What `report` answers and leaves: the answer is the text's length; the lent bytes hold the text, as much of it as fits, and past it what was there.
pub record Reports (bytes old new : List ℕ) (answer : ℕ) : Type 0 where
  pub answers : answer ≡ length (report_of bytes)
  pub leaves : new ≡ overlay (report_of bytes) old
  pub short : answer ≤ longest_text
