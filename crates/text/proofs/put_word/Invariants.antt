use Rattle.std.proofs.Common.{◌≡◌, ◌+◌, drop}
use Rattle.std.proofs.lemmas.List.Edits.{sets}
use Rattle.text.proofs.put_word.Given as goal

abbrev pub invariant-loop-b : goal.invariant-loop-b
invariant-loop-b l = record { reached : l.end ≡ l.at + l.b-index; stored : sets l.initial.out l.at l.word ≡ sets l.out l.end (drop l.b-index l.word) }
