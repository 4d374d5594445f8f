-- How long lists must be: H / (longest period) entries hold the anchors of every accepted chain, cut at any place.
use Rattle.std.specs.Prelude.{ℕ, ◌-◌, ◌/◌, ◌≤◌, ◌≡◌, length, Ok}
use Rattle.std.proofs.Common.{arith}
use Rattle.chain.specs.declared.Chain.{Chain}
use Rattle.chain.specs.Chains.{tasks_of}
use Rattle.chain.proofs.CheckLaws.{Facts, accepted}
use Rattle.maker.specs.Making.{figures_of, made_of}
use Rattle.agreement.specs.EveryChain.{Asked, room_enough}
use Rattle.latency.specs.LongestPlace.{longest_period, longest_place, longest_place_holds, longest_is}

pub longest_room : (c : Chain) → length c.tasks ≡ 12 → (p h a b : ℕ) → Asked c p h a b → h / longest_period (tasks_of c) ≤ a → made_of c p a b ≡ Ok (figures_of c p h)
longest_room c twelve p h a b asked room =
    let k : Facts c h = accepted c h twelve asked.accepted in
    let some = k.passes.sound.some in
    let l = longest_place_holds (tasks_of c) some in
    room_enough c p h a b asked twelve (longest_place (tasks_of c) - 1) (omega (arith, l.some, l.inside, k.passes.counted)) (rw (longest_is (tasks_of c) some) room)
