-- `kind_by` meets its contract.
use native.Mathlib.Omega.{arith}
use Rattle.json_grammar_rules.specs.Reader.{value_lead}
use Rattle.json_reader.specs.Reads.{kind_by}
use Rattle.json_reader.specs.ValueLaws.{lead_number}
use Rattle.json_members.proofs.places.kind_by.Goals as goal

pub returns-in-34 : goal.returns-in-34
unfolding value_lead kind_by
returns-in-34 c = rw c.in-34.is

pub returns-in-91 : goal.returns-in-91
unfolding value_lead kind_by
returns-in-91 c = rw c.in-91.is

pub returns-in-123 : goal.returns-in-123
unfolding value_lead kind_by
returns-in-123 c = rw c.in-123.is

pub returns-in-116 : goal.returns-in-116
unfolding value_lead kind_by
returns-in-116 c = rw c.in-116.is

pub returns-in-102 : goal.returns-in-102
unfolding value_lead kind_by
returns-in-102 c = rw c.in-102.is

pub returns-in-110 : goal.returns-in-110
unfolding value_lead kind_by
returns-in-110 c = rw c.in-110.is

pub returns-in_default : goal.returns-in_default
unfolding value_lead kind_by
returns-in_default c = rw (lead_number c.args.b (λ e. omega arith) (λ e. omega arith) (λ e. omega arith) (λ e. omega arith) (λ e. omega arith) (λ e. omega arith))
