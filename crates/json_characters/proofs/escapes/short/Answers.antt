-- `short` meets its contract.
use mathlib.Core.Path.{refl}
use native.Mathlib.Omega.{arith}
use Rattle.json_grammar_rules.specs.Reader.{escape_lead_of}
use Rattle.json_characters.proofs.EscapeLaws.{short_is, short_none}
use Rattle.json_characters.proofs.escapes.short.Goals as goal

pub returns-in-34 : goal.returns-in-34
unfolding escape_lead_of
returns-in-34 c = short_is _ 0x22 0x22 _ c.in-34.is refl

pub returns-in-92 : goal.returns-in-92
unfolding escape_lead_of
returns-in-92 c = short_is _ 0x5C 0x5C _ c.in-92.is refl

pub returns-in-47 : goal.returns-in-47
unfolding escape_lead_of
returns-in-47 c = short_is _ 0x2F 0x2F _ c.in-47.is refl

pub returns-in-98 : goal.returns-in-98
unfolding escape_lead_of
returns-in-98 c = short_is _ 0x62 0x08 _ c.in-98.is refl

pub returns-in-102 : goal.returns-in-102
unfolding escape_lead_of
returns-in-102 c = short_is _ 0x66 0x0C _ c.in-102.is refl

pub returns-in-110 : goal.returns-in-110
unfolding escape_lead_of
returns-in-110 c = short_is _ 0x6E 0x0A _ c.in-110.is refl

pub returns-in-114 : goal.returns-in-114
unfolding escape_lead_of
returns-in-114 c = short_is _ 0x72 0x0D _ c.in-114.is refl

pub returns-in-116 : goal.returns-in-116
unfolding escape_lead_of
returns-in-116 c = short_is _ 0x74 0x09 _ c.in-116.is refl

pub returns-in_default : goal.returns-in_default
returns-in_default c = short_none _ _ c.requires (λ e. omega arith) (λ e. omega arith) (λ e. omega arith) (λ e. omega arith) (λ e. omega arith) (λ e. omega arith) (λ e. omega arith) (λ e. omega arith)
