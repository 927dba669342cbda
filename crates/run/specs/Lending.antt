-- What a call is lent, and where the run stands with it.
-- Assumes nothing.
use Rattle.std.specs.Prelude.{◌≡◌, List, ℕ}
use Rattle.run.specs.declared.State.{State}
use Rattle.run.specs.declared.Lent.{Lent}
use Rattle.run.specs.Stands.{Stand, stand}

abbrev pub standing : State → List ℕ → Lent → Stand
standing s line l = stand s line l.table.now l.out.now l.text.now l.filled

-- the spaces that are lent are the same ones after a call
pub record Keeps (l after : Lent) : Type 0 where
  pub table : after.table.ghost_name ≡ l.table.ghost_name
  pub out : after.out.ghost_name ≡ l.out.ghost_name
  pub text : after.text.ghost_name ≡ l.text.ghost_name
