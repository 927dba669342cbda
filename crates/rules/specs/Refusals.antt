-- The numbers 8 to 15, in their order.
-- Assumes nothing.
use Rattle.std.specs.Prelude.{Bool, false, cond, not, ◌&&◌, ◌||◌, List, [], ◌∷◌, map, ℕ, ◌*◌, eqb, ltb, length, nat_abs, is_some}
use Rattle.std.specs.Prelude.{Option, None, Some}
use Rattle.grammar.specs.Bytes.{among}
use Rattle.rules.specs.Numbers.{minus, whole, between}
use Rattle.rules.specs.Meaning.{Said}
use Rattle.rules.specs.Codes.{not_served, g_group, m_group, group_of}
use Rattle.rules.specs.Block.{g_codes, m_codes, other_letters, twice, axis, offset, has_one, any_of, all_axes, dwells, sets_origin, machine, sets_offset, names_axis, moves}
use Rattle.rules.specs.Reach.{in_reach}
use Rattle.rules.specs.Steps.{target, motion_of, origin_of, origin_system}
use Rattle.rules.specs.Arcs.{arc_move, plane_axes, centre, bad_arc}
use Rattle.rules.specs.Commands.{commands}
use Rattle.rules.specs.declared.Value.{Value}
use Rattle.rules.specs.declared.Block.{Block}
use Rattle.rules.specs.declared.Record.{Record}

infix 25 ◌when◌
pub data Case : Type 0 where
  ◌when◌ : ℕ → Bool → Case

-- the number of the first condition that holds, else 0
abbrev pub first : List Case → ℕ
first [] = 0
first ((n when b) ∷ cs) = cond b n (first cs)

-- 8: "code not served"
abbrev pub g_groups_of : List Said → List ℕ
g_groups_of ws = map (group_of g_group) (g_codes ws)

abbrev pub m_groups_of : List Said → List ℕ
m_groups_of ws = map (group_of m_group) (m_codes ws)

unfoldable pub unserved : List Said → Bool
unserved ws = among not_served (g_groups_of ws) || among not_served (m_groups_of ws)

-- 9: "letter twice; two codes of one G group or one M group, the same code twice too; G0–G3 beside G10 or G92"
abbrev pub moving_code : Block → Bool
moving_code b = has_one b.motion (0 ∷ 10 ∷ 20 ∷ 30 ∷ [])

unfoldable pub doubled : List Said → Block → Bool
doubled ws b = twice (other_letters ws) || twice (g_groups_of ws) || twice (m_groups_of ws) || moving_code b && (sets_origin b || sets_offset b)

-- 10: "Needed: P for G4; L and P for G10; an axis word for G92, G53, G0–G3;
-- for an arc move, an axis word of the plane and an offset word of the plane"
unfoldable pub missing : Block → Record → Bool
missing b r =
    dwells b && not (is_some b.p)
    || sets_origin b && not (is_some b.l && is_some b.p)
    || (sets_offset b || machine b || moving_code b) && not (names_axis b)
    || arc_move b r && not (any_of (axis b) (plane_axes r.plane) && any_of (offset b) (plane_axes r.plane))

-- "Idle: P without G4 or G10, L without G10, I J K without an arc move or off its plane"
abbrev pub off_plane : ℕ → List ℕ → List ℕ
off_plane plane [] = []
off_plane plane (i ∷ is) = cond (among i (plane_axes plane)) (off_plane plane is) (i ∷ off_plane plane is)

unfoldable pub idle : Block → Record → Bool
idle b r =
    is_some b.p && not (dwells b || sets_origin b)
    || is_some b.l && not (sets_origin b)
    || any_of (offset b) (cond (arc_move b r) (off_plane r.plane all_axes) all_axes)

-- 11: "F, S or G4's P below 0; T not whole 0–99; L not 2; G10's P not whole 1–9"
abbrev pub below0 : Option Value → Bool
below0 None = false
below0 (Some v) = minus v.0

abbrev pub outside : ℕ → ℕ → Option Value → Bool
outside low high None = false
outside low high (Some v) = not (between low high (whole v.0))

unfoldable pub wrong_word : Block → Bool
wrong_word b =
    below0 b.f || below0 b.s || dwells b && below0 b.p
    || outside 0 99 b.t || outside 2 2 b.l || sets_origin b && outside 1 9 b.p

-- 12: "move in mode G80; G53 when motion is not G0 or G1; feed 0 on a move by G1–G3"
unfoldable pub wrong_mode : Block → Record → Bool
wrong_mode b r =
    moves b && eqb (motion_of b r) 800
    || machine b && not (among (motion_of b r) (0 ∷ 10 ∷ []))
    || moves b && among (motion_of b r) (10 ∷ 20 ∷ 30 ∷ []) && eqb (nat_abs r.feed.0) 0

-- 13: "target, centre, origin or offset out of reach"
unfoldable pub too_far : Block → Record → Bool
too_far b r =
    moves b && not (in_reach (target b r))
    || arc_move b r && not (in_reach (centre b r))
    || sets_origin b && not (in_reach (origin_of r (origin_system b)))
    || sets_offset b && not (in_reach r.offset)

-- "Numbers 10 to 14 read modes, units and feed as the order above has set them by then": m is the record as the motion step finds it.
-- 15: "output shorter than eight times the commands"
abbrev pub refusals : List Said → Block → Record → ℕ → List Case
refusals ws b m room =
    (8 when unserved ws)
    ∷ (9 when doubled ws b)
    ∷ (10 when (missing b m || idle b m))
    ∷ (11 when wrong_word b)
    ∷ (12 when wrong_mode b m)
    ∷ (13 when too_far b m)
    ∷ (14 when (arc_move b m && bad_arc b m))
    ∷ (15 when ltb room (8 * length (commands b m))) ∷ []
