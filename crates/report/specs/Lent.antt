-- What lent bytes hold after a report, in plain words.
use Rattle.std.specs.Prelude.{ℕ, ◌≤◌, ◌≡◌, List, ◌++◌, length, take, drop}
use Rattle.std.proofs.Common.{sym, ap, ◌∙◌, subst, append-nil, drop_of_length-le, take_all, take_at, length-take-le}
use Rattle.maker.specs.Making.{overlay}
use Rattle.agreement.specs.MadeTable.{overlay_length}
use Rattle.report.specs.Report.{report_of, Reports}

-- A text that fits stands at the front, and the rest keeps its content.
pub text_fits : (text old : List ℕ) → length text ≤ length old → overlay text old ≡ text ++ drop (length text) old
text_fits text old h = ap (λ (l : List ℕ). l ++ drop (length text) old) (take_all (length old) text h)

-- Of a text that is too long the bytes hold the first ones, as many as fit.
pub text_cut : (text old : List ℕ) → length old ≤ length text → overlay text old ≡ take (length old) text
text_cut text old h =
    ap (λ (l : List ℕ). take (length old) text ++ l) (drop_of_length-le old {i = length text} h) ∙ append-nil (take (length old) text)

-- Lent bytes keep their number, so where they hold the text their front is as long as it.
pub front_length : (bytes old new : List ℕ) (n : ℕ) → Reports bytes old new n → n ≤ length old → n ≡ length (take n new)
front_length bytes old new n r h =
    sym (length-take-le n new (subst (λ (k : ℕ). n ≤ k) (sym (ap length r.leaves ∙ overlay_length (report_of bytes) old)) h))

-- So the front of lent bytes that are enough is the text.
pub front_is_text : (bytes old new : List ℕ) (n : ℕ) → Reports bytes old new n → n ≤ length old → take n new ≡ report_of bytes
front_is_text bytes old new n r h =
    let e : length (report_of bytes) ≡ n = sym r.answers in
    let f : new ≡ report_of bytes ++ drop (length (report_of bytes)) old = r.leaves ∙ text_fits (report_of bytes) old (subst (λ (k : ℕ). k ≤ length old) r.answers h) in
    ap (take n) f ∙ take_at (report_of bytes) _ n e
