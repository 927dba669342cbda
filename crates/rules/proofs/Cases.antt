-- Cases on both sides of each rule, by theme: every number 1 to 15, the skip, every kind of command, the three planes, both units. Whatever the promise allows for
-- each line is what its row says. The values are worked out from document 01, not by these definitions.
-- Assumes nothing.
use mathlib.Core.Path.{refl}
use mathlib.Core.List.{List, [], ◌∷◌, ◌++◌, map}
use Prim.Native.Nat.{ℕ}
use Prim.Native.String.{String}
use lib.ListN.{set, replicate}
use lib.IntN.{ℤ, pos}
use Rattle.grammar.specs.Bytes.{bytes}
use Rattle.grammar.specs.Derivation.{strip, inside}
use Rattle.grammar.proofs.Read.{value_of, rest_of, expr_of, items_of}
use Rattle.rules.specs.Numbers.{nearest, residue, near}
use Rattle.rules.specs.Meaning.{ranged, decimal, written, number_of, operation, function, parameter_of}
use Rattle.rules.specs.Codes.{g_group, m_group, g_code, m_code, system_number}
use Rattle.rules.specs.Block.{g_codes, m_codes, block_of, moves}
use Rattle.rules.specs.Reach.{converted, in_order, fresh}
use Rattle.rules.specs.Steps.{feed_step, speed_step, tool_step, change_step, spindle_step, coolant_step, plane_step, units_step, system_step, distance_step, origin_step, offset_step, target, motion_step, stop_step, ready, left}
use Rattle.rules.specs.Arcs.{arc_move, plane_axes, centre, bad_arc}
use Rattle.rules.specs.Commands.{commands}
use Rattle.rules.specs.Refusals.{unserved, doubled, missing, idle, wrong_word, wrong_mode, too_far}
use Rattle.rules.specs.Promise.{disorder, opens, plain_mark, answer_to}
use Rattle.rules.specs.declared.Length.{Length}
use Rattle.rules.specs.declared.Record.{Record}
use Rattle.rules.proofs.Rows.{Row, Kept, All, kept, neg, xyz, xyz0, holding, unset, zeros, room, begins, row, typed, switched, refuses, refusing, gives}
use Rattle.rules.proofs.Rows.{feed_at, speed_at, selects, changes, spins, cools, waits, rapid_to, feeds_to, arc_to, stops}

-- ---- records to start from

-- fresh but for the modes: motion, plane, distance, units, system
abbrev modes : ℕ → ℕ → ℕ → ℕ → ℕ → Record
modes motion plane distance units system = holding xyz0 unset xyz0 motion plane distance units system (pos 0) (pos 0) 0 0 0

-- fresh but for the position and the motion
abbrev moved : List Length → ℕ → Record
moved position motion = holding position unset xyz0 motion 170 900 210 540 (pos 0) (pos 0) 0 0 0

-- fresh but for the coolant
abbrev cooled : ℕ → Record
cooled coolant = holding xyz0 unset xyz0 800 170 900 210 540 (pos 0) (pos 0) 0 0 coolant

-- with a feed of 100 mm a minute: position, motion, plane
abbrev fed : List Length → ℕ → ℕ → Record
fed position motion plane = holding position unset xyz0 motion plane 900 210 540 (pos 10000000) (pos 0) 0 0 0

-- one in which every field tells: axis 1 to 3 of system n has the origin n01 to n03
abbrev marked : List Length
marked = map (λ (n : ℕ). record { 0 = pos n }) (
    101 ∷ 102 ∷ 103 ∷ 201 ∷ 202 ∷ 203 ∷ 301 ∷ 302 ∷ 303 ∷ 401 ∷ 402 ∷ 403 ∷ 501 ∷ 502 ∷ 503 ∷ 601 ∷ 602 ∷ 603 ∷ 701 ∷ 702 ∷ 703 ∷ 801 ∷ 802 ∷ 803
    ∷ 901 ∷ 902 ∷ 903 ∷ [])

abbrev stood : List Length
stood = xyz (pos 100000) (neg 200000) (pos 300000)

abbrev shift : List Length
shift = xyz (pos 10) (neg 20) (pos 30)

-- the same but for position, offset, motion, plane, distance, units and system; and but for tool, spindle and coolant
abbrev busy_as : List Length → List Length → ℕ → ℕ → ℕ → ℕ → ℕ → Record
busy_as position offset motion plane distance units system = holding position marked offset motion plane distance units system (pos 5000000) (pos 12000000) 7 1 2

abbrev busy_with : ℕ → ℕ → ℕ → Record
busy_with tool spindle coolant = holding stood marked shift 10 180 900 210 591 (pos 5000000) (pos 12000000) tool spindle coolant

abbrev busy : Record
busy = busy_with 7 1 2

-- ---- number 1, with a line that does nothing

-- each field at its limit
abbrev limits : Record
limits = holding (xyz (pos 1000000000) (neg 1000000000) (pos 1000000000)) (replicate 27 (record { 0 = neg 1000000000 })) (xyz (neg 1000000000) (pos 1000000000) (pos 0)) 30 190 910 200 593 (pos 253999999746) (pos 999999999) 99 2 3

abbrev order_rows : List Row
order_rows =
    -- at the limits, and one beyond
    gives "" limits limits []
    ∷ refuses "" (holding (xyz (pos 1000000001) (pos 0) (pos 0)) unset xyz0 800 170 900 210 540 (pos 0) (pos 0) 0 0 0) 1
    ∷ refuses "" (holding (xyz (pos 0) (pos 0) (neg 1000000001)) unset xyz0 800 170 900 210 540 (pos 0) (pos 0) 0 0 0) 1
    ∷ refuses "" (holding xyz0 (set unset 26 (record { 0 = pos 1000000001 })) xyz0 800 170 900 210 540 (pos 0) (pos 0) 0 0 0) 1
    ∷ refuses "" (holding xyz0 unset (xyz (pos 0) (neg 1000000001) (pos 0)) 800 170 900 210 540 (pos 0) (pos 0) 0 0 0) 1
    ∷ refuses "" (modes 40 170 900 210 540) 1
    ∷ refuses "" (modes 810 170 900 210 540) 1
    ∷ refuses "" (modes 15 170 900 210 540) 1
    ∷ refuses "" (modes 800 200 900 210 540) 1
    ∷ refuses "" (modes 800 175 900 210 540) 1
    ∷ refuses "" (modes 800 170 920 210 540) 1
    ∷ refuses "" (modes 800 170 900 220 540) 1
    ∷ refuses "" (modes 800 170 900 210 594) 1
    ∷ refuses "" (modes 800 170 900 210 0) 1
    ∷ refuses "" (holding xyz0 unset xyz0 800 170 900 210 540 (pos 253999999747) (pos 0) 0 0 0) 1
    ∷ refuses "" (holding xyz0 unset xyz0 800 170 900 210 540 (neg 1) (pos 0) 0 0 0) 1
    ∷ refuses "" (holding xyz0 unset xyz0 800 170 900 210 540 (pos 0) (pos 1000000000) 0 0 0) 1
    ∷ refuses "" (holding xyz0 unset xyz0 800 170 900 210 540 (pos 0) (neg 1) 0 0 0) 1
    ∷ refuses "" (holding xyz0 unset xyz0 800 170 900 210 540 (pos 0) (pos 0) 100 0 0) 1
    ∷ refuses "" (holding xyz0 unset xyz0 800 170 900 210 540 (pos 0) (pos 0) 0 3 0) 1
    ∷ refuses "" (holding xyz0 unset xyz0 800 170 900 210 540 (pos 0) (pos 0) 0 0 4) 1
    -- the table's length, and 1 before 2
    ∷ row "" fresh (replicate 4999 (pos 0)) room 1 0 fresh (replicate 4999 (pos 0)) room
    ∷ row "" fresh (replicate 5001 (pos 0)) room 1 0 fresh (replicate 5001 (pos 0)) room
    ∷ typed (replicate 257 40) (refuses "" (modes 40 170 900 210 540) 1)
    ∷ []

pub orders : All Kept order_rows
unfolding strip inside value_of rest_of expr_of items_of nearest residue near ranged decimal written number_of operation function parameter_of g_group m_group g_code m_code system_number g_codes m_codes block_of moves converted in_order fresh feed_step speed_step tool_step change_step spindle_step coolant_step plane_step units_step system_step distance_step origin_step offset_step target motion_step stop_step ready left arc_move plane_axes centre bad_arc commands unserved doubled missing idle wrong_word wrong_mode too_far disorder opens plain_mark answer_to
orders = kept order_rows refl

-- ---- numbers 2 and 3, and the skip

abbrev form_rows : List Row
form_rows =
    -- 2 before the skip and before 3; the skip before 3, its mark after blanks alone, and only with the switch on
    typed (replicate 257 40) (refuses "" fresh 2)
    ∷ switched (typed (47 ∷ replicate 256 32) (refuses "" fresh 2))
    ∷ switched (refuses "/" (modes 40 170 900 210 540) 1)
    ∷ switched (refuses "/)(" fresh 100)
    ∷ switched (refuses " \t /X" fresh 100)
    ∷ switched (refuses "/X[1/0]" fresh 100)
    ∷ switched (refuses "(c)/" fresh 3)
    ∷ refuses "/)(" fresh 3
    ∷ switched (gives "G0 X1" fresh (moved (xyz (pos 100000) (pos 0) (pos 0)) 0) (rapid_to (pos 100000) (pos 0) (pos 0) ∷ []))
    ∷ gives "/G0 X1" fresh (moved (xyz (pos 100000) (pos 0) (pos 0)) 0) (rapid_to (pos 100000) (pos 0) (pos 0) ∷ [])
    -- right forms
    ∷ gives "()" fresh fresh []
    ∷ gives "N0" fresh fresh []
    ∷ gives "/ n 12345 (a remark\t~) g 0 x1. (b)" fresh (moved (xyz (pos 100000) (pos 0) (pos 0)) 0) (rapid_to (pos 100000) (pos 0) (pos 0) ∷ [])
    ∷ gives "G0X+.5Y-0Z5." fresh (moved (xyz (pos 50000) (pos 0) (pos 500000)) 0) (rapid_to (pos 50000) (pos 0) (pos 500000) ∷ [])
    -- wrong forms, judged over the whole line before any value
    ∷ refusing fresh 3 (
    "X" ∷ "X." ∷ "X+." ∷ "X1.2.3" ∷ "X--1" ∷ "X-#1" ∷ "X-[1]" ∷ "X1e5" ∷ "XABS1" ∷ "XABS#1" ∷ "X[1" ∷ "X1]" ∷ "X[]" ∷ "X[1=1]" ∷ "X[1 2+]" ∷ "A1" ∷ "#1"
    ∷ "#1=2=3" ∷ "#=1" ∷ "(a" ∷ "(a(b)" ∷ ")" ∷ "a)" ∷ "(a\nb)" ∷ "G(c)1" ∷ "X[1(c)]" ∷ "N" ∷ "N123456" ∷ "N-1" ∷ "N1N2" ∷ "//" ∷ "(c)N1" ∷ "N1/" ∷ "X1\r"
    ∷ "X1.23456 G" ∷ "X[1/0] Y" ∷ "G59.1." ∷ [])

pub forms : All Kept form_rows
unfolding strip inside value_of rest_of expr_of items_of nearest residue near ranged decimal written number_of operation function parameter_of g_group m_group g_code m_code system_number g_codes m_codes block_of moves converted in_order fresh feed_step speed_step tool_step change_step spindle_step coolant_step plane_step units_step system_step distance_step origin_step offset_step target motion_step stop_step ready left arc_move plane_axes centre bad_arc commands unserved doubled missing idle wrong_word wrong_mode too_far disorder opens plain_mark answer_to
forms = kept form_rows refl

-- ---- numbers 4 to 7, and what expressions come to

-- the expression's value, set as entry 1
infix 25 ◌is◌
pub data Result : Type 0 where
  ◌is◌ : String → ℤ → Result

abbrev working : List Result → List Row
working [] = []
working ((text is v) ∷ rs) = typed (bytes "#1=" ++ bytes text) (row "" fresh zeros room 0 0 fresh (set zeros 1 v) room) ∷ working rs

abbrev value_rows : List Row
value_rows =
    working (
    ("[1 OR 0+5]" is pos 60000) ∷ ("[5+1 OR 0]" is pos 10000) ∷ ("[2*3/4]" is pos 15000) ∷ ("[2-3-4]" is neg 50000) ∷ ("[2+3*4-6/3]" is pos 120000)
    ∷ ("[[2+3]*4]" is pos 200000) ∷ ("[8/4/2]" is pos 10000) ∷ ("[1/-3]" is neg 3333) ∷ ("[-2/3]" is neg 6667) ∷ ("[0.5*0.0001]" is pos 1)
    ∷ ("[0.4999*0.0001]" is pos 0) ∷ ("[-0.4999*0.0001]" is pos 0) ∷ ("[-0.0001/2]" is neg 1) ∷ ("[0.0001/3]" is pos 0) ∷ ("[7 MOD 3]" is pos 10000)
    ∷ ("[7 MOD -3]" is pos 10000) ∷ ("[-7 MOD -3]" is pos 20000) ∷ ("[5.5 MOD 2]" is pos 15000) ∷ ("[6 MOD 3]" is pos 0) ∷ ("[-6 MOD 3]" is pos 0)
    ∷ ("[-0.0001 MOD 2]" is pos 19999) ∷ ("[2 AND 3]" is pos 10000) ∷ ("[2 AND 0]" is pos 0) ∷ ("[0 OR -0.0001]" is pos 10000) ∷ ("[0 OR 0]" is pos 0)
    ∷ ("[2 XOR 0]" is pos 10000) ∷ ("[2 XOR 3]" is pos 0) ∷ ("[0.0001 AND 1]" is pos 10000) ∷ ("ABS[-1.5]" is pos 15000) ∷ ("ABS[1.5]" is pos 15000)
    ∷ ("FIX[2.8]" is pos 20000) ∷ ("FIX[-3]" is neg 30000) ∷ ("FUP[2.8]" is pos 30000) ∷ ("FUP[-3]" is neg 30000) ∷ ("FUP[0.0001]" is pos 10000)
    ∷ ("FIX[-0.0001]" is neg 10000) ∷ ("ROUND[2.5]" is pos 30000) ∷ ("ROUND[2.4999]" is pos 20000) ∷ ("ROUND[-2.4999]" is neg 20000)
    ∷ ("ROUND[-0.5]" is neg 10000) ∷ ("-99999.9999" is neg 999999999) ∷ ("1." is pos 10000) ∷ ("+.0001" is pos 1) ∷ ("-0" is pos 0)
    ∷ ("0000000001" is pos 10000) ∷ ("[1--2]" is pos 30000)
    -- any decimals, to the nearest ten-thousandth, halves away from zero, from all digits at once, the range after rounding
    ∷ ("1.00000" is pos 10000) ∷ ("1.234567" is pos 12346) ∷ ("1.23454999" is pos 12345) ∷ ("1.23455" is pos 12346) ∷ ("-1.23455" is neg 12346)
    ∷ ("-0.00005" is neg 1) ∷ ("-0.00004999" is pos 0) ∷ ("0.000149999" is pos 1) ∷ ("99999.99994999" is pos 999999999) ∷ ("-99999.99994" is neg 999999999)
    ∷ [])
    -- the first met in working order decides
    ++ refusing fresh 5 (
    "X100000 Y1.23456" ∷ "X1.23456 Y100000" ∷ "X100000.00000" ∷ "#1=99999.99995" ∷ "#1=-99999.999950" ∷ "X-100000" ∷ "#1=[99999+1-1/0]" ∷ "#1=[99999+99999-99999]" ∷ "#1=[99999*2]" ∷ "#1=[1000/0.001]" ∷ "#100000=1"
    ∷ "#1=FUP[99999.0001]" ∷ "#1=FIX[-99999.5]" ∷ "#1=ROUND[99999.5]" ∷ "G100000" ∷ [])
    ++ refusing fresh 6 ("#1=[99999+1*1/0]" ∷ "#1=[0 AND 1/0]" ∷ "#1=[1 MOD 0]" ∷ "#1=[1/[0.0001*0.4]]" ∷ "#[1/0]=1" ∷ "#1=[1/-0]" ∷ "X[1/0] Y1.23456" ∷ "X1.23456 Y[1/0]" ∷ "#1=[1/0] #0=1" ∷ [])
    ++ refusing fresh 7 ("#-1=1" ∷ "#0.0001=1" ∷ "#4999.9999=1" ∷ "#1.5=1" ∷ "X#0" ∷ "X#5000" ∷ "#0=[1/0]" ∷ "#0=1.23456" ∷ "#1.00015=1" ∷ "##1=1" ∷ [])
    -- parameter numbers, and the table as it was at entry
    ++ row "#0.9999=1" fresh zeros room 0 0 fresh (set zeros 1 (pos 10000)) room
    ∷ row "#1.00014=1" fresh zeros room 0 0 fresh (set zeros 1 (pos 10000)) room
    ∷ row "#4999.0001=1" fresh zeros room 0 0 fresh (set zeros 4999 (pos 10000)) room
    ∷ row "#1=##2" fresh (set (set zeros 2 (pos 30000)) 3 (pos 50000)) room 0 0 fresh (set (set (set zeros 1 (pos 50000)) 2 (pos 30000)) 3 (pos 50000)) room
    ∷ row "##1=5" fresh (set zeros 1 (pos 20000)) room 0 0 fresh (set (set zeros 1 (pos 20000)) 2 (pos 50000)) room
    ∷ row "#1=2 #2=#1 #1=[#1+#1]" fresh (set zeros 1 (pos 70000)) room 0 0 fresh (set (set zeros 1 (pos 140000)) 2 (pos 70000)) room
    ∷ row "#1=#2" fresh (set zeros 2 (pos 1000000000)) room 5 0 fresh (set zeros 2 (pos 1000000000)) room
    ∷ row "#2=1" fresh (set zeros 2 (pos 1000000000)) room 0 0 fresh (set zeros 2 (pos 10000)) room
    ∷ []

pub values : All Kept value_rows
unfolding strip inside value_of rest_of expr_of items_of nearest residue near ranged decimal written number_of operation function parameter_of g_group m_group g_code m_code system_number g_codes m_codes block_of moves converted in_order fresh feed_step speed_step tool_step change_step spindle_step coolant_step plane_step units_step system_step distance_step origin_step offset_step target motion_step stop_step ready left arc_move plane_axes centre bad_arc commands unserved doubled missing idle wrong_word wrong_mode too_far disorder opens plain_mark answer_to
values = kept value_rows refl

-- ---- numbers 8 and 9

abbrev code_rows : List Row
code_rows =
    refusing fresh 8 (
    "G5" ∷ "G-1" ∷ "G100" ∷ "G99.9999" ∷ "G0.05" ∷ "G59.4" ∷ "G59.1002" ∷ "G59.0998" ∷ "G41" ∷ "G93" ∷ "M10" ∷ "M100" ∷ "M1.5" ∷ "M-1" ∷ "M6.9998"
    ∷ "G1 G1 G5" ∷ [])
    -- at most 0.0001 from a code
    ++ gives "G59.1001" fresh (modes 800 170 900 210 591) []
    ∷ gives "G59.0999" fresh (modes 800 170 900 210 591) []
    ∷ gives "G58.9999" fresh (modes 800 170 900 210 590) []
    ∷ gives "G-0.0001 X1" fresh (moved (xyz (pos 100000) (pos 0) (pos 0)) 0) (rapid_to (pos 100000) (pos 0) (pos 0) ∷ [])
    ∷ gives "M4.9999" fresh fresh (spins 0 ∷ [])
    -- a letter twice, two codes of one group, a move's code beside G10 or G92
    ∷ refusing fresh 9 (
    "X1 X1" ∷ "Z1 X1 Z2" ∷ "X1 Z1 Z2" ∷ "G0 G17 G18 X1" ∷ "F1 F1" ∷ "S1 S1" ∷ "T1 T1" ∷ "P1 P1" ∷ "L2 L2" ∷ "I1 I1" ∷ "G0 G80" ∷ "G17 G18" ∷ "G90 G91"
    ∷ "G20 G21" ∷ "G94 G94" ∷ "G40 G40" ∷ "G49 G49" ∷ "G54 G59.1" ∷ "G4 G53 P1" ∷ "G92 G92.1 X1" ∷ "M0 M30" ∷ "M3 M5" ∷ "M6 M6" ∷ "M7 M8" ∷ "G0 G10 L2 P1"
    ∷ "G3 G92 X1" ∷ [])
    -- what is none
    ++ row "#1=1 #1=1" fresh zeros room 0 0 fresh (set zeros 1 (pos 10000)) room
    ∷ gives "G94 G40 G49 G80 G17 G21 G90 G54" fresh fresh []
    ∷ gives "G80 G92 X1" fresh (holding xyz0 unset (xyz (neg 100000) (pos 0) (pos 0)) 800 170 900 210 540 (pos 0) (pos 0) 0 0 0) []
    ∷ gives "G80 G10 L2 P1 Y1" fresh (holding xyz0 (set unset 1 (record { 0 = pos 100000 })) xyz0 800 170 900 210 540 (pos 0) (pos 0) 0 0 0) []
    ∷ []

pub codes : All Kept code_rows
unfolding strip inside value_of rest_of expr_of items_of nearest residue near ranged decimal written number_of operation function parameter_of g_group m_group g_code m_code system_number g_codes m_codes block_of moves converted in_order fresh feed_step speed_step tool_step change_step spindle_step coolant_step plane_step units_step system_step distance_step origin_step offset_step target motion_step stop_step ready left arc_move plane_axes centre bad_arc commands unserved doubled missing idle wrong_word wrong_mode too_far disorder opens plain_mark answer_to
codes = kept code_rows refl

-- ---- numbers 10 to 12

abbrev word_rows : List Row
word_rows =
    -- needed
    refusing fresh 10 ("G4 X1" ∷ "G10" ∷ "G10 L2" ∷ "G10 P1" ∷ "G92" ∷ "G53" ∷ "G0" ∷ "G1 F100" ∷ "G2 I1" ∷ "G3" ∷ [])
    ++ refusing (fed xyz0 10 170) 10 ("G2 X1" ∷ "G2 Z1 I1" ∷ "G3 Z1 K1" ∷ "G18 G2 Y1 I1" ∷ [])
    ++ refusing (fed xyz0 20 170) 10 ("X1" ∷ "G53 X1" ∷ [])
    -- idle
    ++ refusing fresh 10 ("P1" ∷ "L2" ∷ "I1" ∷ "J0" ∷ "G92.1 P1" ∷ "G92 X1 P1" ∷ "G53 G0 X1 P1" ∷ "G4 P1 L2" ∷ "G10 L2 P1 K1" ∷ "G0 X1 I1" ∷ "X1 I1" ∷ [])
    ++ refusing (fed xyz0 10 170) 10 ("G2 X1 I1 K0" ∷ "G18 G2 X1 J1 I1" ∷ "G19 G3 Y1 J1 I1" ∷ "G1 X1 I1" ∷ [])
    ++ gives "G10 L2 P1" fresh fresh []
    -- values of words
    ∷ refusing fresh 11 (
    "F-0.0001" ∷ "S-0.0001" ∷ "G4 P-0.0001" ∷ "T-1" ∷ "T100" ∷ "T1.5" ∷ "T99.0002" ∷ "G10 L1 P1" ∷ "G10 L3 P1" ∷ "G10 L1.9998 P1" ∷ "G10 L2 P0"
    ∷ "G10 L2 P10" ∷ "G10 L2 P1.5" ∷ "G10 L2 P-1" ∷ [])
    ++ gives "F-0" fresh fresh (feed_at (pos 0) ∷ [])
    ∷ gives "F99999.9999" (modes 800 170 900 200 540) (holding xyz0 unset xyz0 800 170 900 200 540 (pos 253999999746) (pos 0) 0 0 0) (feed_at (pos 253999999746) ∷ [])
    ∷ gives "T99.0001" fresh (holding xyz0 unset xyz0 800 170 900 210 540 (pos 0) (pos 0) 99 0 0) (selects 99 ∷ [])
    ∷ gives "T-0.0001" fresh fresh (selects 0 ∷ [])
    ∷ gives "G10 L1.9999 P9.0001 Z1" fresh (holding xyz0 (set unset 26 (record { 0 = pos 100000 })) xyz0 800 170 900 210 540 (pos 0) (pos 0) 0 0 0) []
    -- modes
    ∷ refusing fresh 12 ("X1" ∷ "G80 X1" ∷ "G53 X1" ∷ "G92.1 X1" ∷ "G1 X1" ∷ "G2 X1 I1" ∷ "G1 F0 X1" ∷ [])
    ++ refusing (fed xyz0 10 170) 12 ("F0 X1" ∷ "G53 G2 X1 I1" ∷ "G53 G80 X1" ∷ [])
    ++ gives "G1 F1 X1" fresh (holding (xyz (pos 100000) (pos 0) (pos 0)) unset xyz0 10 170 900 210 540 (pos 100000) (pos 0) 0 0 0)
    (feed_at (pos 100000) ∷ feeds_to (pos 100000) (pos 0) (pos 0) ∷ [])
    ∷ gives "F0 G0 X1" (fed xyz0 10 170) (moved (xyz (pos 100000) (pos 0) (pos 0)) 0) (feed_at (pos 0) ∷ rapid_to (pos 100000) (pos 0) (pos 0) ∷ [])
    ∷ []

pub words : All Kept word_rows
unfolding strip inside value_of rest_of expr_of items_of nearest residue near ranged decimal written number_of operation function parameter_of g_group m_group g_code m_code system_number g_codes m_codes block_of moves converted in_order fresh feed_step speed_step tool_step change_step spindle_step coolant_step plane_step units_step system_step distance_step origin_step offset_step target motion_step stop_step ready left arc_move plane_axes centre bad_arc commands unserved doubled missing idle wrong_word wrong_mode too_far disorder opens plain_mark answer_to
words = kept word_rows refl

-- ---- numbers 13 to 15

abbrev reach_rows : List Row
reach_rows =
    -- target, centre, origin, offset
    refusing fresh 13 ("G0 X-10000.0001" ∷ "G20 G0 Z393.7008" ∷ "G10 L2 P1 X10000.0001" ∷ "G92 X-10000.0001" ∷ [])
    ++ gives "G0 X-10000" fresh (moved (xyz (neg 1000000000) (pos 0) (pos 0)) 0) (rapid_to (neg 1000000000) (pos 0) (pos 0) ∷ [])
    ∷ gives "G20 G0 Z393.7007" fresh (holding (xyz (pos 0) (pos 0) (pos 999999778)) unset xyz0 0 170 900 200 540 (pos 0) (pos 0) 0 0 0) (rapid_to (pos 0) (pos 0) (pos 999999778) ∷ [])
    ∷ gives "G10 L2 P1 X10000" fresh (holding xyz0 (set unset 0 (record { 0 = pos 1000000000 })) xyz0 800 170 900 210 540 (pos 0) (pos 0) 0 0 0) []
    ∷ gives "G92 X-10000" fresh (holding xyz0 unset (xyz (pos 1000000000) (pos 0) (pos 0)) 800 170 900 210 540 (pos 0) (pos 0) 0 0 0) []
    ∷ refusing (fed (xyz (pos 1000000000) (pos 0) (pos 0)) 10 170) 13 ("G91 X0.0001" ∷ "G2 X9999.9998 I0.0001" ∷ "G2 X99999 I0" ∷ [])
    ++ gives "G2 X9999.9998 I-0.0001" (fed (xyz (pos 1000000000) (pos 0) (pos 0)) 10 170) (fed (xyz (pos 999999980) (pos 0) (pos 0)) 20 170)
    (arc_to 2 17 (pos 999999980) (pos 0) (pos 0) (pos 999999990) (pos 0) ∷ [])
    -- origin and offset may leave the reach where the target does not
    ∷ gives "G0 X-10000" (holding xyz0 (set unset 0 (record { 0 = pos 1000000000 })) (xyz (pos 1000000000) (pos 0) (pos 0)) 0 170 900 210 540 (pos 0) (pos 0) 0 0 0)
    (holding (xyz (pos 1000000000) (pos 0) (pos 0)) (set unset 0 (record { 0 = pos 1000000000 })) (xyz (pos 1000000000) (pos 0) (pos 0)) 0 170 900 210 540 (pos 0) (pos 0) 0 0 0)
    (rapid_to (pos 1000000000) (pos 0) (pos 0) ∷ [])
    -- arcs: the start is the centre, though the radii are near; radii within 200 counts, under G20 within 508
    ∷ refusing (fed xyz0 10 170) 14 ("G2 X1 I0" ∷ "G2 X0 I0" ∷ "G2 X0.001 I0" ∷ "G3 Y0.001 I0 J-0" ∷ "G3 X0.9979 I0.5" ∷ "G20 G2 X1.0003 I0.5" ∷ "G20 G2 X0.0015 I0.0005 J0.0017" ∷ [])
    ++ gives "G2 X0.001 I0.001" (fed xyz0 10 170) (fed (xyz (pos 100) (pos 0) (pos 0)) 20 170) (arc_to 2 17 (pos 100) (pos 0) (pos 0) (pos 100) (pos 0) ∷ [])
    ∷ gives "G3 X0.998 I0.5" (fed xyz0 10 170) (fed (xyz (pos 99800) (pos 0) (pos 0)) 30 170) (arc_to 3 17 (pos 99800) (pos 0) (pos 0) (pos 50000) (pos 0) ∷ [])
    ∷ gives "G20 G2 X1.0002 I0.5" (fed xyz0 10 170) (holding (xyz (pos 2540508) (pos 0) (pos 0)) unset xyz0 20 170 900 200 540 (pos 10000000) (pos 0) 0 0 0)
    (arc_to 2 17 (pos 2540508) (pos 0) (pos 0) (pos 1270000) (pos 0) ∷ [])
    -- the true radii are compared: 260 and 460.98 counts lie too far apart, so do radii of 200.0002 counts' difference; 199.9999 are near enough, whichever is larger
    ∷ refusing (fed xyz0 10 170) 14 ("G2 X0.0069 I0.0024 J0.001" ∷ "G2 X0.0049 I0.0004 J0.004" ∷ "G2 X0.0522 I0.0249 J0.0173" ∷ "G2 X0.0522 I0.0273 J0.0173" ∷ [])
    ++ gives "G2 X0.0256 I0.0115 J0.0106" (fed xyz0 10 170) (fed (xyz (pos 2560) (pos 0) (pos 0)) 20 170) (arc_to 2 17 (pos 2560) (pos 0) (pos 0) (pos 1150) (pos 1060) ∷ [])
    ∷ gives "G2 X0.0256 I0.0141 J0.0106" (fed xyz0 10 170) (fed (xyz (pos 2560) (pos 0) (pos 0)) 20 170) (arc_to 2 17 (pos 2560) (pos 0) (pos 0) (pos 1410) (pos 1060) ∷ [])
    ∷ gives "G20 G2 X0.06 I0.0299 J0.0001" (fed xyz0 10 170) (holding (xyz (pos 152400) (pos 0) (pos 0)) unset xyz0 20 170 900 200 540 (pos 10000000) (pos 0) 0 0 0)
    (arc_to 2 17 (pos 152400) (pos 0) (pos 0) (pos 75946) (pos 254) ∷ [])
    -- room for eight numbers a command
    ∷ row "G0 X1" fresh zeros (replicate 7 (pos 77)) 15 0 fresh zeros (replicate 7 (pos 77))
    ∷ row "G0 X1" fresh zeros (replicate 8 (pos 77)) 0 1 (moved (xyz (pos 100000) (pos 0) (pos 0)) 0) zeros (rapid_to (pos 100000) (pos 0) (pos 0))
    ∷ row "#1=1 F1 S1" fresh zeros (replicate 15 (pos 77)) 15 0 fresh zeros (replicate 15 (pos 77))
    ∷ row "F1 S1" fresh zeros (replicate 16 (pos 77)) 0 2 (holding xyz0 unset xyz0 800 170 900 210 540 (pos 100000) (pos 10000) 0 0 0) zeros (feed_at (pos 100000) ++ speed_at (pos 10000))
    ∷ row "G91" fresh zeros [] 0 0 (modes 800 170 910 210 540) zeros []
    ∷ []

pub reaches : All Kept reach_rows
unfolding strip inside value_of rest_of expr_of items_of nearest residue near ranged decimal written number_of operation function parameter_of g_group m_group g_code m_code system_number g_codes m_codes block_of moves converted in_order fresh feed_step speed_step tool_step change_step spindle_step coolant_step plane_step units_step system_step distance_step origin_step offset_step target motion_step stop_step ready left arc_move plane_axes centre bad_arc commands unserved doubled missing idle wrong_word wrong_mode too_far disorder opens plain_mark answer_to
reaches = kept reach_rows refl

-- ---- what an accepted line does

abbrev effect_rows : List Row
effect_rows =
    -- every step at once, in whatever order the words stand
    gives "F60 S1500 T12 M6 M4 M7 G4 P1.5 G1 X1 Z2 M0" busy (holding (xyz (pos 100711) (neg 200000) (pos 200733)) marked shift 10 180 900 210 591 (pos 6000000) (pos 15000000) 12 2 3)
    (feed_at (pos 6000000) ∷ speed_at (pos 15000000) ∷ selects 12 ∷ changes ∷ spins 2 ∷ cools 1 ∷ waits (pos 15000) ∷ feeds_to (pos 100711) (neg 200000) (pos 200733) ∷ stops 0 ∷ [])
    ∷ gives "M0 Z2 X1 G1 P1.5 G4 M7 M4 M6 T12 S1500 F60" busy (holding (xyz (pos 100711) (neg 200000) (pos 200733)) marked shift 10 180 900 210 591 (pos 6000000) (pos 15000000) 12 2 3)
    (feed_at (pos 6000000) ∷ speed_at (pos 15000000) ∷ selects 12 ∷ changes ∷ spins 2 ∷ cools 1 ∷ waits (pos 15000) ∷ feeds_to (pos 100711) (neg 200000) (pos 200733) ∷ stops 0 ∷ [])
    -- tool, spindle, coolant, dwell
    ∷ gives "M6" busy (busy_with 7 0 2) (changes ∷ [])
    ∷ gives "T8" busy (busy_with 8 1 2) (selects 8 ∷ [])
    ∷ gives "M3" busy (busy_as stood shift 10 180 900 210 591) (spins 1 ∷ [])
    ∷ gives "M4" busy (busy_with 7 2 2) (spins 2 ∷ [])
    ∷ gives "M5" busy (busy_with 7 0 2) (spins 0 ∷ [])
    ∷ gives "M6 M3" busy (busy_as stood shift 10 180 900 210 591) (changes ∷ spins 1 ∷ [])
    ∷ gives "M7" busy (busy_with 7 1 3) (cools 1 ∷ [])
    ∷ gives "M8" busy (busy_as stood shift 10 180 900 210 591) (cools 2 ∷ [])
    ∷ gives "M9" busy (busy_with 7 1 0) (cools 0 ∷ [])
    ∷ gives "M7" fresh (cooled 1) (cools 1 ∷ [])
    ∷ gives "M8" (cooled 1) (cooled 3) (cools 2 ∷ [])
    ∷ gives "M8" (cooled 3) (cooled 3) (cools 2 ∷ [])
    ∷ gives "M9" (cooled 3) fresh (cools 0 ∷ [])
    ∷ gives "G4 P0" busy busy (waits (pos 0) ∷ [])
    ∷ gives "G4 P2.5 Y1" busy (busy_as (xyz (pos 100000) (pos 100682) (pos 300000)) shift 10 180 900 210 591) (waits (pos 25000) ∷ feeds_to (pos 100000) (pos 100682) (pos 300000) ∷ [])
    -- F in the units before the line, axis words in those of the line
    ∷ gives "G20 F1 X1" busy (holding (xyz (pos 2540711) (neg 200000) (pos 300000)) marked shift 10 180 900 200 591 (pos 100000) (pos 12000000) 7 1 2)
    (feed_at (pos 100000) ∷ feeds_to (pos 2540711) (neg 200000) (pos 300000) ∷ [])
    -- targets: origin and offset, G91, G53, systems
    ∷ gives "G0 X1 Y1 Z1" busy (busy_as (xyz (pos 100711) (pos 100682) (pos 100733)) shift 0 180 900 210 591) (rapid_to (pos 100711) (pos 100682) (pos 100733) ∷ [])
    ∷ gives "G55 X0" busy (busy_as (xyz (pos 211) (neg 200000) (pos 300000)) shift 10 180 900 210 550) (feeds_to (pos 211) (neg 200000) (pos 300000) ∷ [])
    ∷ gives "G59 Y0" busy (busy_as (xyz (pos 100000) (pos 582) (pos 300000)) shift 10 180 900 210 590) (feeds_to (pos 100000) (pos 582) (pos 300000) ∷ [])
    ∷ gives "G59.3 Z0" busy (busy_as (xyz (pos 100000) (neg 200000) (pos 933)) shift 10 180 900 210 593) (feeds_to (pos 100000) (neg 200000) (pos 933) ∷ [])
    ∷ gives "G91 X1 Y-1" busy (busy_as (xyz (pos 200000) (neg 300000) (pos 300000)) shift 10 180 910 210 591) (feeds_to (pos 200000) (neg 300000) (pos 300000) ∷ [])
    ∷ gives "G53 X2" busy (busy_as (xyz (pos 200000) (neg 200000) (pos 300000)) shift 10 180 900 210 591) (feeds_to (pos 200000) (neg 200000) (pos 300000) ∷ [])
    ∷ gives "G91 G53 G0 Z-1" busy (busy_as (xyz (pos 100000) (neg 200000) (neg 100000)) shift 0 180 910 210 591) (rapid_to (pos 100000) (neg 200000) (neg 100000) ∷ [])
    -- G10, G92, G92.1
    ∷ gives "G10 L2 P7 X1 Y-1" busy (holding stood (set (set marked 18 (record { 0 = pos 100000 })) 19 (record { 0 = neg 100000 })) shift 10 180 900 210 591 (pos 5000000) (pos 12000000) 7 1 2) []
    ∷ gives "G91 G20 G10 L2 P1 Z1" busy (holding stood (set marked 2 (record { 0 = pos 2540000 })) shift 10 180 910 200 591 (pos 5000000) (pos 12000000) 7 1 2) []
    ∷ gives "G92 X0 Y1" busy (busy_as stood (xyz (pos 99299) (neg 300702) (pos 30)) 10 180 900 210 591) []
    ∷ gives "G55 G91 G92 Z0" busy (busy_as stood (xyz (pos 10) (neg 20) (pos 299797)) 10 180 910 210 550) []
    ∷ gives "G92.1" busy (busy_as stood xyz0 10 180 900 210 591) []
    ∷ gives "G92.1 X1" busy (busy_as (xyz (pos 100701) (neg 200000) (pos 300000)) xyz0 10 180 900 210 591) (feeds_to (pos 100701) (neg 200000) (pos 300000) ∷ [])
    ∷ gives "G0 G92.1 X1" busy (busy_as (xyz (pos 100701) (neg 200000) (pos 300000)) xyz0 0 180 900 210 591) (rapid_to (pos 100701) (neg 200000) (pos 300000) ∷ [])
    -- arcs in the three planes, centre in axis order
    ∷ gives "G3 X1 Y1 J1" (fed xyz0 10 170) (fed (xyz (pos 100000) (pos 100000) (pos 0)) 30 170) (arc_to 3 17 (pos 100000) (pos 100000) (pos 0) (pos 0) (pos 100000) ∷ [])
    ∷ gives "G2 X1 Y1 Z5 I1" (fed xyz0 10 170) (fed (xyz (pos 100000) (pos 100000) (pos 500000)) 20 170) (arc_to 2 17 (pos 100000) (pos 100000) (pos 500000) (pos 100000) (pos 0) ∷ [])
    ∷ gives "G2 X0 I1" (fed xyz0 10 170) (fed xyz0 20 170) (arc_to 2 17 (pos 0) (pos 0) (pos 0) (pos 100000) (pos 0) ∷ [])
    ∷ gives "G18 G2 X2 Z2 I2" (fed xyz0 10 170) (fed (xyz (pos 200000) (pos 0) (pos 200000)) 20 180) (arc_to 2 18 (pos 200000) (pos 0) (pos 200000) (pos 200000) (pos 0) ∷ [])
    ∷ gives "G18 G3 X1 Z1 K1" (fed xyz0 10 170) (fed (xyz (pos 100000) (pos 0) (pos 100000)) 30 180) (arc_to 3 18 (pos 100000) (pos 0) (pos 100000) (pos 0) (pos 100000) ∷ [])
    ∷ gives "G19 G2 Y1 Z1 J1" (fed xyz0 10 170) (fed (xyz (pos 0) (pos 100000) (pos 100000)) 20 190) (arc_to 2 19 (pos 0) (pos 100000) (pos 100000) (pos 100000) (pos 0) ∷ [])
    ∷ gives "G19 G3 Y1 Z1 K1" (fed xyz0 10 170) (fed (xyz (pos 0) (pos 100000) (pos 100000)) 30 190) (arc_to 3 19 (pos 0) (pos 100000) (pos 100000) (pos 0) (pos 100000) ∷ [])
    ∷ gives "G20 G3 X1 Y1 J1" (fed xyz0 10 170) (holding (xyz (pos 2540000) (pos 2540000) (pos 0)) unset xyz0 30 170 900 200 540 (pos 10000000) (pos 0) 0 0 0)
    (arc_to 3 17 (pos 2540000) (pos 2540000) (pos 0) (pos 0) (pos 2540000) ∷ [])
    ∷ gives "X1 Y1 J1" (fed xyz0 30 170) (fed (xyz (pos 100000) (pos 100000) (pos 0)) 30 170) (arc_to 3 17 (pos 100000) (pos 100000) (pos 0) (pos 0) (pos 100000) ∷ [])
    ∷ gives "G91 G2 X1 Y1 I1" (fed (xyz (pos 100000) (pos 0) (pos 0)) 10 170) (holding (xyz (pos 200000) (pos 100000) (pos 0)) unset xyz0 20 170 910 210 540 (pos 10000000) (pos 0) 0 0 0)
    (arc_to 2 17 (pos 200000) (pos 100000) (pos 0) (pos 200000) (pos 0) ∷ [])
    -- the line's code becomes the mode; the stops, and what M2 and M30 set
    ∷ gives "G80" busy (busy_as stood shift 800 180 900 210 591) []
    ∷ gives "G0 X0" (fed xyz0 10 170) (fed xyz0 0 170) (rapid_to (pos 0) (pos 0) (pos 0) ∷ [])
    ∷ gives "Y1" (moved xyz0 0) (moved (xyz (pos 0) (pos 100000) (pos 0)) 0) (rapid_to (pos 0) (pos 100000) (pos 0) ∷ [])
    ∷ gives "M1" busy busy (stops 1 ∷ [])
    ∷ gives "M2" busy (holding stood marked xyz0 10 170 900 210 540 (pos 5000000) (pos 12000000) 7 0 0) (stops 2 ∷ [])
    ∷ gives "G91 G0 X1 G55 M30" busy (holding (xyz (pos 200000) (neg 200000) (pos 300000)) marked xyz0 10 170 900 210 540 (pos 5000000) (pos 12000000) 7 0 0)
    (rapid_to (pos 200000) (neg 200000) (pos 300000) ∷ stops 30 ∷ [])
    ∷ gives "M2 G80 G20" busy (holding stood marked xyz0 10 170 900 200 540 (pos 5000000) (pos 12000000) 7 0 0) (stops 2 ∷ [])
    -- words and settings together
    ∷ row "G1 X#1 #1=5 Y#1" busy (set zeros 1 (pos 20000)) room 0 1 (busy_as (xyz (pos 200711) (pos 200682) (pos 300000)) shift 10 180 900 210 591) (set zeros 1 (pos 50000)) (begins (feeds_to (pos 200711) (pos 200682) (pos 300000)))
    ∷ []

pub effects : All Kept effect_rows
unfolding strip inside value_of rest_of expr_of items_of nearest residue near ranged decimal written number_of operation function parameter_of g_group m_group g_code m_code system_number g_codes m_codes block_of moves converted in_order fresh feed_step speed_step tool_step change_step spindle_step coolant_step plane_step units_step system_step distance_step origin_step offset_step target motion_step stop_step ready left arc_move plane_axes centre bad_arc commands unserved doubled missing idle wrong_word wrong_mode too_far disorder opens plain_mark answer_to
effects = kept effect_rows refl
