-- How the code works values out in one pass: the arithmetic it has, and how it keeps the state of an expression. No public contract cites it.
-- Assumes nothing.
use Rattle.std.specs.Prelude.{refl, cond, List, Option, Some, None, ℤ}
use Rattle.grammar.specs.Working.{Arithmetic, high}
use Rattle.grammar.proofs.Terms.{Pass, by_levels}
use Rattle.grammar.specs.declared.Op.{Op}
use Rattle.rules.specs.Meaning.{Worked, Entry, number_of, word_of, setting_of, condition_of}
use Rattle.arithmetic.specs.Guarded.{work, apply, lookup}
use Rattle.reader.specs.declared.terms.State.{State}

-- the arithmetic of crate `arithmetic`, which answers for values out of range too; `guarded_line` says that no line tells it from the rules' arithmetic
abbrev pub guarded : List ℤ → Arithmetic Worked Entry
guarded table = record {
  number_of = number_of;
  lookup = lookup table;
  apply = apply;
  enclose = λ a. a;
  work = work;
  word_of = word_of;
  setting_of = setting_of;
  condition_of = condition_of;
}

-- an expression's first value
abbrev pub begun : Worked → State
begun a = record { waiting = None; term = a }

-- what waits, worked out with its right side
abbrev pub settled : Option (Op × Worked) → Worked → Worked
settled None right = right
settled (Some w) right = work w.0 w.1 right

-- after an operator and the value on its right: `* / MOD` go into the term; any other settles what waited and waits itself
abbrev pub pushed : State → Op → Worked → State
pushed st o right =
    cond (high o) (record { waiting = st.waiting; term = work o st.term right }) (record { waiting = Some (o, settled st.waiting st.term); term = right })

-- the pass, with what makes it one
abbrev pub pass : (table : List ℤ) → Pass (guarded table) State
pass table = by_levels (record {
  fresh = begun;
  pushed = pushed;
  term = λ st. st.term;
  settle = λ st right. settled st.waiting right;
  fresh_term = λ a. refl;
  fresh_settle = λ a right. refl;
  high_term = λ st o b e. rw e;
  high_settle = λ st o b right e. rw e;
  low_term = λ st o b e. rw e;
  low_settle = λ st o b right e. rw e;
})
