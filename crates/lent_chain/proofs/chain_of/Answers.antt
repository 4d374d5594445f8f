use Rattle.std.proofs.Common.{◌≡◌, sym, ◌∙◌, arith, rules}
use Rattle.chain.specs.Chains.{zero_task}
use Rattle.schedule.specs.Padding.{padded_none}
use Rattle.lent_chain.specs.LentList.{chain_of_list}
use Rattle.lent_chain.proofs.Copying.{copied, copied_next, copied_all}
use Rattle.lent_chain.proofs.chain_of.Goals as goal

pub loop-i-init : goal.loop-i-init
loop-i-init c =
    let z : c.default-first.result ≡ zero_task = search rules in
    rw z (sym (padded_none zero_task 12))

pub loop-i-preserved : goal.loop-i-preserved
loop-i-preserved c = rw c.loop-i.invariant (copied_next _ _ (omega arith) (omega arith))

pub returns : goal.returns
unfolding chain_of_list
returns c =
    let all : c.loop-i.first ≡ copied 12 c.args.tasks.now = c.loop-i.invariant ∙ copied_all _ _ (omega arith) in
    rw all
