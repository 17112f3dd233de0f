-- `differ`, by the derived comparison.
use denote.Enum.Bare.{differs_true, differs_false}
use Rattle.std.proofs.Common.{rules, sym, ◌∙◌}
use Rattle.json_grammar_rules.specs.contracts.Kind.{the_type}
use Rattle.jose_facts.proofs.kinds.differ.Goals as goal

pub returns-clause-apart : goal.returns-clause-apart
returns-clause-apart c = λ y. differs_true the_type _ _ (sym c.ne.ensures ∙ y)

pub returns-clause-alike : goal.returns-clause-alike
returns-clause-alike c = λ n. differs_false the_type (search rules) _ _ (sym c.ne.ensures ∙ n)
