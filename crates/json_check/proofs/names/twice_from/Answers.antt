-- `twice_from` meets its contract. The loop's invariant: what was found is right from the first place on.
use Rattle.json_check.proofs.NameLaws as law
use Rattle.json_check.proofs.names.twice_from.Goals as goal

pub loop-found-init : goal.loop-found-init
loop-found-init c = c.pass-found.ensures

pub returns-in-Twice : goal.returns-in-Twice
returns-in-Twice c = law.twice _ _ c.loop-found.invariant c.in-Twice.is

pub returns-in-Once : goal.returns-in-Once
returns-in-Once c = law.once _ _ c.loop-found.invariant c.in-Once.is

pub pass-found-requires-in-Unfinished : goal.pass-found-requires-in-Unfinished
pass-found-requires-in-Unfinished c = law.within_text _ _ c.loop-found.invariant c.in-Unfinished.is

pub loop-found-smaller : goal.loop-found-smaller
loop-found-smaller c = (law.on _ _ c.loop-found.invariant c.in-Unfinished.is _ c.pass-found-in-Unfinished.ensures).1

pub loop-found-preserved : goal.loop-found-preserved
loop-found-preserved c = (law.on _ _ c.loop-found.invariant c.in-Unfinished.is _ c.pass-found-in-Unfinished.ensures).0
