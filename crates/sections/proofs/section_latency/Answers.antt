use native.Mathlib.Omega.{arith}
use mathlib.Core.Path.{sym, ap, ◌∙◌, subst}
use lib.ListN.{length-map}
use Rattle.task.specs.Jobs.{place_of}
use Rattle.chain.specs.Flat.{given_in, tasks_in, in_long}
use Rattle.latency.specs.Latency.{greatest_latency}
use Rattle.sections.specs.Uniform.{Cuttable, section_cuttable}
use Rattle.sections.specs.PartOfList.{in_section}
use Rattle.sections.proofs.section_latency.Goals as goal

pub slice_bounds-greatest_of-end : goal.slice_bounds-greatest_of-end
slice_bounds-greatest_of-end c = let s = c.before in omega (arith, in_long s.args.tasks.now, length-map (given_in s.args.tasks.now) (place_of s.args.gap), s.requires.2)

pub greatest_of-requires : goal.greatest_of-requires
greatest_of-requires c = let s = c.before in let k = subst (Cuttable s.args.gap) (sym (in_section s.args.gap s.args.a s.args.e s.args.tasks.now)) (section_cuttable s.args.gap (tasks_in s.args.gap s.args.tasks.now) s.requires.0 s.args.a s.args.e s.requires.1 s.requires.2) in (k.uniform.sound, k.small)

pub returns : goal.returns
returns c = let s = c.before in c.greatest_of.ensures ∙ ap greatest_latency (in_section s.args.gap s.args.a s.args.e s.args.tasks.now)
