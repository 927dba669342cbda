use Rattle.reader.specs.declared.spelling.Following.TheVariants.{Close, Operator}
use Rattle.grammar.proofs.Read.{close, oper}
use Rattle.grammar.specs.declared.Op.TheVariants.{Add, Sub, Mul, Div, Mod, And, Or, Xor}
use mathlib.Core.List.{[], ◌∷◌}
use mathlib.Core.Path.{refl}
use Rattle.reader.proofs.Spellings.{following_past, following_mark, following_word, following_none}
use Rattle.reader.proofs.spelling.following_at.Goals as goal

pub returns-then-text-at : goal.returns-then-text-at
returns-then-text-at c = following_past c.args.text.now c.args.at c.if-text-at.true c.requires

pub returns-in-93 : goal.returns-in-93
returns-in-93 c = following_mark c.args.text.now c.args.at c.if-text-at.false 93 close Close refl refl c.in-93.is

pub returns-in-43 : goal.returns-in-43
returns-in-43 c = following_mark c.args.text.now c.args.at c.if-text-at.false 43 (oper Add) (Operator Add) refl refl c.in-43.is

pub returns-in-45 : goal.returns-in-45
returns-in-45 c = following_mark c.args.text.now c.args.at c.if-text-at.false 45 (oper Sub) (Operator Sub) refl refl c.in-45.is

pub returns-in-42 : goal.returns-in-42
returns-in-42 c = following_mark c.args.text.now c.args.at c.if-text-at.false 42 (oper Mul) (Operator Mul) refl refl c.in-42.is

pub returns-in-47 : goal.returns-in-47
returns-in-47 c = following_mark c.args.text.now c.args.at c.if-text-at.false 47 (oper Div) (Operator Div) refl refl c.in-47.is

pub returns-in-77 : goal.returns-in-77
returns-in-77 c = following_word c.args.text.now c.args.at c.if-text-at.false 77 (79 ∷ 68 ∷ []) Mod refl c.in-77.is c.keyword.ensures c.operator_after.ensures

pub returns-in-65 : goal.returns-in-65
returns-in-65 c = following_word c.args.text.now c.args.at c.if-text-at.false 65 (78 ∷ 68 ∷ []) And refl c.in-65.is c.keyword-in-65.ensures c.operator_after-in-65.ensures

pub returns-in-79 : goal.returns-in-79
returns-in-79 c = following_word c.args.text.now c.args.at c.if-text-at.false 79 (82 ∷ []) Or refl c.in-79.is c.keyword-in-79.ensures c.operator_after-in-79.ensures

pub returns-in-88 : goal.returns-in-88
returns-in-88 c = following_word c.args.text.now c.args.at c.if-text-at.false 88 (79 ∷ 82 ∷ []) Xor refl c.in-88.is c.keyword-in-88.ensures c.operator_after-in-88.ensures

pub returns-in_default : goal.returns-in_default
returns-in_default c = following_none c.args.text.now c.args.at c.if-text-at.false c.in_default.in_default-own.rest.0.0.0.0.0.0.0.0.1 c.in_default.in_default-own.rest.0.0.0.0.0.0.0.1 c.in_default.in_default-own.rest.0.0.0.0.0.0.1 c.in_default.in_default-own.rest.0.0.0.0.0.1 c.in_default.in_default-own.rest.0.0.0.0.1 c.in_default.in_default-own.rest.0.0.0.1 c.in_default.in_default-own.rest.0.0.1 c.in_default.in_default-own.rest.0.1 c.in_default.in_default-own.rest.1
