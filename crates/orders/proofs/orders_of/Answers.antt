-- `orders::orders_of` meets its contract.
-- Assumes nothing.
use mathlib.Core.Path.{◌≡◌, refl}
use mathlib.Core.List.{[], ◌∷◌}
use lib.IntN.{pos}
use borrow.Author.Rules.{rules}
use Rattle.std.specs.Prelude.{option_map}
use Rattle.std.specs.Bool.{then_some}
use Rattle.rules.specs.Block.{amount, dwells}
use Rattle.rules.specs.Steps.{spindle_of, coolant_of}
use Rattle.rules.specs.Commands.{command}
use Rattle.orders.specs.Orders.{orders_of}
use Rattle.orders.proofs.orders_of.Goals as goal

pub returns : goal.returns
unfolding orders_of
returns c =
    let f : c.map.result ≡ option_map (λ _. command 1 (c.args.feed.0 ∷ [])) c.args.b.f = search rules in
    let s : c.map-2.result ≡ option_map (λ _. command 2 (c.args.speed.0 ∷ [])) c.args.b.s = search rules in
    let t : c.map-3.result ≡ option_map (λ _. command 3 (pos c.args.tool ∷ [])) c.args.b.t = search rules in
    let change : c.map-4.result ≡ option_map (λ _. command 4 []) c.args.b.change = search rules in
    let spindle : c.map-5.result ≡ option_map (λ m. command 5 (pos (spindle_of m) ∷ [])) c.args.b.spindle = search rules in
    let coolant : c.map-6.result ≡ option_map (λ m. command 6 (pos (coolant_of m) ∷ [])) c.args.b.coolant = search rules in
    let stop : c.map-7.result ≡ option_map (λ m. command 11 (pos m ∷ [])) c.args.b.stop = search rules in
    let pause : c.then_some.result ≡ then_some (dwells c.args.b) (command 7 ((amount c.args.b.p).0 ∷ [])) = search rules in
    rw (f, s, t, change, spindle, coolant, pause, stop) refl
