-- Each public function's contract allows one result.
-- Assumes nothing.
use mathlib.Core.Path.{refl}
use Rattle.laws.proofs.Sole.{Sole, alike}
use Rattle.embed.proofs.Demands.{one_result}
use Rattle.embed.proofs.FileDemands.{one_reading}
use Rattle.embed.specs.contracts.rs274_line as rs274_line
use Rattle.embed.specs.contracts.files.rs274_parameters_read as rs274_parameters_read
use Rattle.embed.specs.contracts.files.rs274_parameters_write as rs274_parameters_write

pub rs274_line_sole : Sole rs274_line.ended (λ M 𝓤. rs274_line.clauses)
rs274_line_sole = record {
  says = _;
  is = λ M 𝓤 𝓛 mem run κs a ghost r e. refl;
  one = λ κs a r r' ws ws' p q.
      let e = one_result a.0.now a.1.0 a.1.1.0.now a.1.1.1.0.now a.1.1.1.1.0.now p q in
      (λ i. (e i).answer, λ i. (tt, (tt, ((e i).rec, ((e i).table, ((e i).out, tt))))));
}

pub rs274_parameters_read_sole : Sole rs274_parameters_read.ended (λ M 𝓤. rs274_parameters_read.clauses)
rs274_parameters_read_sole = record {
  says = _;
  is = λ M 𝓤 𝓛 mem run κs a ghost r e. refl;
  one = λ κs a r r' ws ws' p q.
      let e = one_reading a.0.now a.1.0.now a.1.1.0.now p q in
      (λ i. (e i).number, λ i. (tt, ((e i).rec, ((e i).table, tt))));
}

pub rs274_parameters_write_sole : Sole rs274_parameters_write.ended (λ M 𝓤. rs274_parameters_write.clauses)
rs274_parameters_write_sole = record {
  says = _;
  is = λ M 𝓤 𝓛 mem run κs a ghost r e. refl;
  one = λ κs a r r' ws ws' p q.
      let e = alike p q in
      (λ i. record { number = (e i).number; count = (e i).count }, λ i. (tt, (tt, ((e i).out, tt))));
}
