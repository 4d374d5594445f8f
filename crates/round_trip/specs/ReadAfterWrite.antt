-- Reading what was written gives the tasks, the chains and the gap back.
use Rattle.std.specs.Prelude.{ℕ, zero, suc, ◌+◌, ◌-◌, ◌*◌, ◌≤◌, ◌<◌, ◌≡◌, refl, Bool, true, cond, List, [], ◌∷◌, ◌++◌, map, length, drop, Ok, Result}
use Rattle.std.proofs.Common.{arith, sym, ap, ◌∙◌, append_assoc, append-nil, length-append, drop_at, le-ltb, eq-eqb, ne_eqb}
use Rattle.std.proofs.lemmas.List.{length-map, get_or_at}
use Rattle.file_reader.specs.declared.Record.TheVariants.{Chain, End, Gap, Task}
use Rattle.file_reader.specs.declared.Record.{Record}
use Rattle.little_endian.specs.LittleEndian.{bytes_of}
use Rattle.task.specs.Jobs.{gap_limit}
use Rattle.schedule.specs.declared.NumberedTask.{NumberedTask}
use Rattle.schedule.specs.Schedules.{number_of, task_rule}
use Rattle.file_reader.specs.Reading.{length_field, kind_field, places_field, task_field, chain_field, last_of, all_known, end_record, record_of, refused_file, accepted_file, after_record, read_from, read_file}
use Rattle.file_reader.proofs.Going.{map_snoc}
use Rattle.file_reader.proofs.Exits.{task_judged, chain_judged, gap_judged, record_kind, kind_task, kind_chain, kind_end, kind_gap}
use Rattle.file_writer.specs.FileBytes.{task_bytes, tasks_bytes, chain_bytes, chains_bytes, gap_bytes, end_bytes, file_of}
use Rattle.schedule_checks.specs.Checks.{first_fault}
use Rattle.schedule_checks.proofs.SoundSchedule.{fault_cons}
use Rattle.file_writer.proofs.Lengths.{length_task, length_chain, length_gap, length_end}
use Rattle.round_trip.specs.RecordBytes.{Small, task_front, head_length, head_kind, task_read, chain_front, chain_read, gap_front, gap_read}
use Rattle.round_trip.specs.Right.{Placed, one_more, Right, rule_fits, unknown_all, chain_small}

-- ---- one record

task_record_holds : (ns : List ℕ) (t : NumberedTask) (rest : List ℕ) → length ns < 32 → task_rule (last_of ns) t ≡ true → record_of ns 0 0 (task_bytes t ++ rest) ≡ Ok (Task t)
task_record_holds ns t rest few rule =
    let l : List ℕ = task_bytes t ++ rest in
    let is : task_field l ≡ t = task_read t rest (rule_fits (last_of ns) t rule) in
    let long : length_field l ≡ 18 = ap length_field (task_front t rest) ∙ head_length 18 1 _ (omega arith) (omega arith) in
    let kind : kind_field l ≡ 1 = ap kind_field (task_front t rest) ∙ head_kind 18 1 _ (omega arith) (omega arith) in
    let n : length l ≡ 18 + length rest = length-append (task_bytes t) rest ∙ ap (λ (k : ℕ). k + length rest) (length_task t) in
    sym (record_kind ns 0 0 l (omega arith) (omega arith) (omega arith)) ∙ sym (kind_task ns 0 0 l (kind_field l) kind)
    ∙ sym (task_judged ns 0 l long refl few true (ap (task_rule (last_of ns)) is ∙ rule)) ∙ ap (λ x. Ok (Task x)) is

chain_record_holds : (ns ch rest : List ℕ) (before : ℕ) → before < 4 → 1 ≤ length ns → 1 ≤ length ch → length ch ≤ 12 → Small ch → all_known ns ch ≡ true → record_of ns before 0 (chain_bytes ch ++ rest) ≡ Ok (Chain (length ch))
chain_record_holds ns ch rest before more some placed few small all =
    let l : List ℕ = chain_bytes ch ++ rest in
    let long : length_field l ≡ 4 + 2 * length ch = ap length_field (chain_front ch rest) ∙ head_length (4 + 2 * length ch) 2 _ (omega arith) (omega arith) in
    let kind : kind_field l ≡ 2 = ap kind_field (chain_front ch rest) ∙ head_kind (4 + 2 * length ch) 2 _ (omega arith) (omega arith) in
    let p : places_field l ≡ length ch = omega arith in
    let n : length l ≡ 4 + 2 * length ch + length rest = length-append (chain_bytes ch) rest ∙ ap (λ (k : ℕ). k + length rest) (length_chain ch) in
    let known-all : all_known ns (chain_field l (places_field l)) ≡ true = ap (λ (k : ℕ). all_known ns (chain_field l k)) p ∙ ap (all_known ns) (chain_read ch rest small) ∙ all in
    sym (record_kind ns before 0 l (omega arith) (omega arith) (omega arith)) ∙ sym (kind_chain ns before 0 l (kind_field l) kind)
    ∙ sym (chain_judged ns before 0 l (omega arith) (omega arith) (omega arith) more some refl true known-all) ∙ ap (λ x. Ok (Chain x)) p

gap_record_holds : (ns rest : List ℕ) (p g : ℕ) → 1 ≤ p → suc g ≤ gap_limit → record_of ns p 0 (gap_bytes (suc g) ++ rest) ≡ Ok (Gap (suc g))
gap_record_holds ns rest p g chained few =
    let l : List ℕ = gap_bytes (suc g) ++ rest in
    let long : length_field l ≡ 6 = ap length_field (gap_front g rest) ∙ head_length 6 4 _ (omega arith) (omega arith) in
    let kind : kind_field l ≡ 4 = ap kind_field (gap_front g rest) ∙ head_kind 6 4 _ (omega arith) (omega arith) in
    let n : length l ≡ 6 + length rest = length-append (gap_bytes (suc g)) rest ∙ ap (λ (k : ℕ). k + length rest) (length_gap (suc g) (λ z. absurd (omega arith))) in
    sym (record_kind ns p 0 l (omega arith) (omega arith) (omega arith)) ∙ sym (kind_gap ns p 0 l (kind_field l) kind)
    ∙ sym (gap_judged p 0 l long chained refl (suc g) (sym (gap_read g rest (omega arith))) (omega arith) few)

end_record_holds : (ns : List ℕ) (p g : ℕ) → 1 ≤ p → record_of ns p g end_bytes ≡ Ok End
unfolding end_record end_bytes
end_record_holds ns p g placed =
    let e : bytes_of 2 4 ++ bytes_of 2 3 ≡ bytes_of 2 4 ++ (bytes_of 2 3 ++ []) = ap (λ (r : List ℕ). bytes_of 2 4 ++ r) (sym (append-nil (bytes_of 2 3))) in
    let long : length_field end_bytes ≡ 4 = ap length_field e ∙ head_length 4 3 [] (omega arith) (omega arith) in
    let kind : kind_field end_bytes ≡ 3 = ap kind_field e ∙ head_kind 4 3 [] (omega arith) (omega arith) in
    let n : length end_bytes ≡ 4 = length_end in
    sym (record_kind ns p g end_bytes (omega arith) (omega arith) (omega arith)) ∙ sym (kind_end ns p g end_bytes (kind_field end_bytes) kind)
    ∙ rw (eq-eqb (length_field end_bytes) 4 long, ne_eqb p 0 (λ z. omega arith))

-- ---- the file, from the end, the gap, a chain and a task on

last_number : (ns : List ℕ) (n : ℕ) → last_of (ns ++ (n ∷ [])) ≡ n
last_number ns n = get_or_at ns n [] 0 (length (ns ++ (n ∷ [])) - 1) (omega (arith, length-append ns (n ∷ [])))

last_snoc : (ts : List NumberedTask) (t : NumberedTask) → last_of (map number_of (ts ++ (t ∷ []))) ≡ t.number
last_snoc ts t = ap last_of (map_snoc number_of ts t) ∙ last_number (map number_of ts) t.number

-- one more record is read
turn : (n : ℕ) (ts : List NumberedTask) (chs : List (List ℕ)) (g at : ℕ) (l : List ℕ) (r : Result Record ℕ) → 1 ≤ n → record_of (map number_of ts) (length chs) g l ≡ r
    → read_from n ts chs g at l ≡ after_record (read_from (n - 1)) ts chs g at l r
unfolding read_from
turn n ts chs g at l r pos e =
    let s : n ≡ suc (n - 1) = omega arith in
    ap (λ (k : ℕ). read_from k ts chs g at l) s ∙ ap (after_record (read_from (n - 1)) ts chs g at l) e

from_end : (n : ℕ) (ts : List NumberedTask) (chs : List (List ℕ)) (g at : ℕ) → 4 ≤ n → 1 ≤ length chs → read_from n ts chs g at end_bytes ≡ accepted_file ts chs g
unfolding after_record
from_end n ts chs g at h chained =
    turn n ts chs g at end_bytes (Ok End) (omega arith) (end_record_holds (map number_of ts) (length chs) g chained)
    ∙ ap (λ (b : Bool). cond b (refused_file 4 (at + 4)) (accepted_file ts chs g)) (le-ltb 4 (length end_bytes) (omega (arith, length_end)))

from_gap : (n : ℕ) (ts : List NumberedTask) (chs : List (List ℕ)) (g at : ℕ) → length (gap_bytes g ++ end_bytes) ≤ n → 1 ≤ length chs → g ≤ gap_limit
    → read_from n ts chs 0 at (gap_bytes g ++ end_bytes) ≡ accepted_file ts chs g
unfolding gap_bytes after_record
from_gap n ts chs zero at h chained few = from_end n ts chs 0 at (omega (arith, length_end)) chained
from_gap n ts chs (suc g) at h chained few =
    let six : length (gap_bytes (suc g)) ≡ 6 = length_gap (suc g) (λ z. absurd (omega arith)) in
    let m : length (gap_bytes (suc g) ++ end_bytes) ≡ 6 + 4 = length-append (gap_bytes (suc g)) end_bytes ∙ (omega (arith, length_end)) in
    turn n ts chs 0 at (gap_bytes (suc g) ++ end_bytes) (Ok (Gap (suc g))) (omega arith) (gap_record_holds (map number_of ts) end_bytes (length chs) g chained few)
    ∙ ap (read_from (n - 1) ts chs (suc g) (at + 6)) (drop_at (gap_bytes (suc g)) end_bytes 6 six)
    ∙ from_end (n - 1) ts chs (suc g) (at + 6) (omega arith) chained

-- the chains that are still to be read, after those that were
from_chains : (ts : List NumberedTask) (g : ℕ) → 1 ≤ length ts → first_fault 1 0 ts ≡ 0 → g ≤ gap_limit → (todo done : List (List ℕ)) (n at : ℕ) → length (chains_bytes todo ++ (gap_bytes g ++ end_bytes)) ≤ n
    → Placed (map number_of ts) todo → 1 ≤ length (done ++ todo) → length (done ++ todo) ≤ 4
    → read_from n ts done 0 at (chains_bytes todo ++ (gap_bytes g ++ end_bytes)) ≡ accepted_file ts (done ++ todo) g
unfolding chains_bytes after_record
from_chains ts g some right permitted [] done n at h placed chained few =
    let e : done ++ [] ≡ done = append-nil done in
    from_gap n ts done g at h (rw e at chained) permitted ∙ ap (λ (chs : List (List ℕ)). accepted_file ts chs g) (sym e)
from_chains ts g some right permitted (ch ∷ todo) done n at h (one_more a b unknown placed) chained few =
    let all : all_known (map number_of ts) ch ≡ true = unknown_all 1 (map number_of ts) ch (omega arith) unknown in
    let small : Small ch = chain_small ts ch right all in
    let tail : List ℕ = gap_bytes g ++ end_bytes in
    let rest : List ℕ = chains_bytes todo ++ tail in
    let e : (chain_bytes ch ++ chains_bytes todo) ++ tail ≡ chain_bytes ch ++ rest = append_assoc (chain_bytes ch) (chains_bytes todo) tail in
    let m : length ((chain_bytes ch ++ chains_bytes todo) ++ tail) ≡ 4 + 2 * length ch + length rest = ap length e ∙ length-append (chain_bytes ch) rest ∙ ap (λ (i : ℕ). i + length rest) (length_chain ch) in
    let j : (done ++ (ch ∷ [])) ++ todo ≡ done ++ (ch ∷ todo) = append_assoc done (ch ∷ []) todo in
    ap (read_from n ts done 0 at) e
    ∙ turn n ts done 0 at (chain_bytes ch ++ rest) (Ok (Chain (length ch))) (omega arith)
    (chain_record_holds (map number_of ts) ch rest (length done) (omega (arith, length-append done (ch ∷ todo))) (rw (length-map ts number_of) some) a b small all)
    ∙ ap (λ (c : List ℕ). read_from (n - 1) ts (done ++ (c ∷ [])) 0 (at + (4 + 2 * length ch)) (drop (4 + 2 * length ch) (chain_bytes ch ++ rest))) (chain_read ch rest small)
    ∙ ap (read_from (n - 1) ts (done ++ (ch ∷ [])) 0 (at + (4 + 2 * length ch))) (drop_at (chain_bytes ch) rest (4 + 2 * length ch) (length_chain ch))
    ∙ from_chains ts g some right permitted todo (done ++ (ch ∷ [])) (n - 1) (at + (4 + 2 * length ch)) (omega arith) placed (rw j chained) (rw j few)
    ∙ ap (λ (chs : List (List ℕ)). accepted_file ts chs g) j

from_tasks : (todo done : List NumberedTask) (chs : List (List ℕ)) (g p n at : ℕ) → 1 ≤ p → length (tasks_bytes todo ++ (chains_bytes chs ++ (gap_bytes g ++ end_bytes))) ≤ n
    → first_fault p (last_of (map number_of done)) todo ≡ 0 → Right (done ++ todo) chs g
    → read_from n done [] 0 at (tasks_bytes todo ++ (chains_bytes chs ++ (gap_bytes g ++ end_bytes))) ≡ accepted_file (done ++ todo) chs g
unfolding tasks_bytes after_record
from_tasks [] done chs g p n at pos h f ok =
    let e : done ++ [] ≡ done = append-nil done in
    let k : Right done chs g = rw e at ok in
    from_chains done g k.some k.tasks_right k.permitted chs [] n at h k.placed k.chained k.few_chains ∙ ap (λ (ts : List NumberedTask). accepted_file ts chs g) (sym e)
from_tasks (t ∷ todo) done chs g p n at pos h f ok =
    let k = fault_cons p (last_of (map number_of done)) t todo pos f in
    let tail : List ℕ = chains_bytes chs ++ (gap_bytes g ++ end_bytes) in
    let rest : List ℕ = tasks_bytes todo ++ tail in
    let e : (task_bytes t ++ tasks_bytes todo) ++ tail ≡ task_bytes t ++ rest = append_assoc (task_bytes t) (tasks_bytes todo) tail in
    let m : length ((task_bytes t ++ tasks_bytes todo) ++ tail) ≡ 18 + length rest = ap length e ∙ length-append (task_bytes t) rest ∙ ap (λ (i : ℕ). i + length rest) (length_task t) in
    let j : (done ++ (t ∷ [])) ++ todo ≡ done ++ (t ∷ todo) = append_assoc done (t ∷ []) todo in
    let few : length (map number_of done) < 32 = omega (arith, ok.few, length-append done (t ∷ todo), length-map done number_of) in
    ap (read_from n done [] 0 at) e
    ∙ turn n done [] 0 at (task_bytes t ++ rest) (Ok (Task t)) (omega arith) (task_record_holds (map number_of done) t rest few k.0)
    ∙ ap (read_from (n - 1) (done ++ (t ∷ [])) [] 0 (at + 18)) (drop_at (task_bytes t) rest 18 (length_task t))
    ∙ from_tasks todo (done ++ (t ∷ [])) chs g (p + 1) (n - 1) (at + 18) (omega arith) (omega arith) (rw (last_snoc done t) k.1) (rw j ok)
    ∙ ap (λ (ts : List NumberedTask). accepted_file ts chs g) j

-- Reading the file of tasks, chains and a gap that writing accepts ends with these tasks, these chains and this gap.
pub read_of_file : (ts : List NumberedTask) (chs : List (List ℕ)) (g : ℕ) → Right ts chs g → read_file (file_of ts chs g) ≡ accepted_file ts chs g
unfolding file_of
read_of_file ts chs g ok = from_tasks ts [] chs g 1 (length (tasks_bytes ts ++ (chains_bytes chs ++ (gap_bytes g ++ end_bytes)))) 0 (omega arith) (omega arith) ok.tasks_right ok
