use Rattle.reader.specs.declared.spelling.Opening.TheVariants.{Parameter, Bracket}
use Rattle.grammar.proofs.Read.{hash, bare}
use Rattle.grammar.specs.declared.Func.TheVariants.{Abs, Round}
use mathlib.Core.List.{[], ◌∷◌}
use mathlib.Core.Path.{refl}
use Rattle.reader.proofs.Spellings.{opening_past, opening_mark, opening_word, opening_by_f, opening_none}
use Rattle.reader.proofs.spelling.opening_at.Goals as goal

pub returns-then-text-at : goal.returns-then-text-at
returns-then-text-at c = opening_past c.args.text.now c.args.at c.if-text-at.true c.requires

pub returns-in-35 : goal.returns-in-35
returns-in-35 c = opening_mark c.args.text.now c.args.at c.if-text-at.false 35 hash Parameter refl refl c.in-35.is

pub returns-in-91 : goal.returns-in-91
returns-in-91 c = opening_mark c.args.text.now c.args.at c.if-text-at.false 91 bare Bracket refl refl c.in-91.is

pub returns-in-65 : goal.returns-in-65
returns-in-65 c = opening_word c.args.text.now c.args.at c.if-text-at.false 65 (66 ∷ 83 ∷ 91 ∷ []) Abs refl c.in-65.is c.keyword.ensures c.function_after.ensures

pub returns-in-70 : goal.returns-in-70
returns-in-70 c = opening_by_f c.args.text.now c.args.at c.if-text-at.false c.in-70.is c.fix_or_fup.ensures

pub returns-in-82 : goal.returns-in-82
returns-in-82 c = opening_word c.args.text.now c.args.at c.if-text-at.false 82 (79 ∷ 85 ∷ 78 ∷ 68 ∷ 91 ∷ []) Round refl c.in-82.is c.keyword-in-82.ensures c.function_after-in-82.ensures

pub returns-in_default : goal.returns-in_default
returns-in_default c = opening_none c.args.text.now c.args.at c.if-text-at.false c.in_default.in_default-own.rest.0.0.0.0.1 c.in_default.in_default-own.rest.0.0.0.1 c.in_default.in_default-own.rest.0.0.1 c.in_default.in_default-own.rest.0.1 c.in_default.in_default-own.rest.1
