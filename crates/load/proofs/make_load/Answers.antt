use Rattle.std.proofs.Common.{arith}
use Rattle.std.proofs.lemmas.Grind.{common_steps}
use Rattle.load.proofs.Exits.{wrong_places, of_tasks}
use Rattle.load.proofs.make_load.Goals as goal

pub returns-then-not-contains : goal.returns-then-not-contains
returns-then-not-contains c = wrong_places _ _ (λ h. grind (arith, common_steps))

pub returns : goal.returns
returns c = of_tasks _ _ _ (grind (arith, common_steps)) (grind (arith, common_steps)) c.tasks_from.ensures
