-- The worked examples U1 to U9 of document 01, with every value that it gives, in one list that one
-- computed check covers. A length is a whole number there, so they are also those of the lengths
-- widened to 64 bits. Then examples of lengths past 32 bits, and of the byte/word mask beside the
-- bit mask (document 02, requests 4 and 3).
use Rattle.std.specs.Prelude.{ℕ, ◌+◌, ◌*◌, ◌-◌, ◌^◌, Bool, true, false, not, ◌&&◌, List, [], ◌∷◌, ◌++◌, T, eqb, replicate, get_or, take, ℤ, pos, negsuc}
use Rattle.bits.specs.Bits.{least_below, greatest_below, tabulate, number_of}
use Rattle.unit.specs.declared.IndexAnswer.{IndexAnswer}
use Rattle.unit.specs.declared.MaskAnswer.{MaskAnswer}
use Rattle.unit.specs.Control.{control_of}
use Rattle.unit.specs.Operand.{count, explicit_length, words_of}
use Rattle.unit.specs.Compare.{bool_res, int_res1, int_res2}
use Rattle.unit.specs.Output.{index_of, mask_of, bit_mask, element_mask, flags_of}
use Rattle.unit.specs.Calls.{explicit, PCMPESTRI, PCMPESTRM, PCMPISTRM}

abbrev pub all : List Bool → Bool
all [] = true
all (x ∷ xs) = x && all xs

-- two lists are the same
abbrev pub same_list : List ℕ → List ℕ → Bool
same_list [] [] = true
same_list [] (y ∷ ys) = false
same_list (x ∷ xs) [] = false
same_list (x ∷ xs) (y ∷ ys) = eqb x y && same_list xs ys

-- sixteen bytes, zero past those given
unfoldable pub padded : List ℕ → List ℕ
padded xs = take 16 (xs ++ replicate 16 0)

-- IntRes1 of an explicit call as a number
unfoldable pub first_result : List ℕ → ℕ → List ℕ → ℕ → ℕ → ℕ
first_result x₁ l₁ x₂ l₂ c =
    number_of (count (control_of c).words)
    (int_res1 (explicit (padded x₁) (pos l₁) (padded x₂) (pos l₂) (control_of c)))

-- IntRes2, read off the bit mask of an explicit call
unfoldable pub result : List ℕ → ℕ → List ℕ → ℕ → ℕ → ℕ
result x₁ l₁ x₂ l₂ c =
    get_or (PCMPESTRM (padded x₁) (pos l₁) (padded x₂) (pos l₂) c).mask 0 0
    + 256 * get_or (PCMPESTRM (padded x₁) (pos l₁) (padded x₂) (pos l₂) c).mask 1 0

unfoldable pub index : List ℕ → ℕ → List ℕ → ℕ → ℕ → ℕ
index x₁ l₁ x₂ l₂ c = (PCMPESTRI (padded x₁) (pos l₁) (padded x₂) (pos l₂) c).index

unfoldable pub CF : List ℕ → ℕ → List ℕ → ℕ → ℕ → Bool
CF x₁ l₁ x₂ l₂ c = (PCMPESTRI (padded x₁) (pos l₁) (padded x₂) (pos l₂) c).flags.carry

unfoldable pub ZF : List ℕ → ℕ → List ℕ → ℕ → ℕ → Bool
ZF x₁ l₁ x₂ l₂ c = (PCMPESTRI (padded x₁) (pos l₁) (padded x₂) (pos l₂) c).flags.zero

unfoldable pub SF : List ℕ → ℕ → List ℕ → ℕ → ℕ → Bool
SF x₁ l₁ x₂ l₂ c = (PCMPESTRI (padded x₁) (pos l₁) (padded x₂) (pos l₂) c).flags.sign

unfoldable pub OF : List ℕ → ℕ → List ℕ → ℕ → ℕ → Bool
OF x₁ l₁ x₂ l₂ c = (PCMPESTRI (padded x₁) (pos l₁) (padded x₂) (pos l₂) c).flags.overflow

-- `ABC`, `ZZABZABCZZZZZZAB`, `SMITH`, `SMYTH`, `AZ` and `a-B`
abbrev pub abc : List ℕ
abc = 65 ∷ 66 ∷ 67 ∷ []

abbrev pub text : List ℕ
text = 90 ∷ 90 ∷ 65 ∷ 66 ∷ 90 ∷ 65 ∷ 66 ∷ 67 ∷ 90 ∷ 90 ∷ 90 ∷ 90 ∷ 90 ∷ 90 ∷ 65 ∷ 66 ∷ []

abbrev pub smith : List ℕ
smith = 83 ∷ 77 ∷ 73 ∷ 84 ∷ 72 ∷ []

abbrev pub smyth : List ℕ
smyth = 83 ∷ 77 ∷ 89 ∷ 84 ∷ 72 ∷ []

abbrev pub az : List ℕ
az = 65 ∷ 90 ∷ []

abbrev pub a_b : List ℕ
a_b = 97 ∷ 45 ∷ 66 ∷ []

-- U1: first result, index, the four flags; and the index with bit 6 set
unfoldable pub U1 : Bool
U1 =
    eqb (first_result abc 3 text 16 0x0C) 0x4020 && eqb (result abc 3 text 16 0x0C) 0x4020
    && eqb (index abc 3 text 16 0x0C) 5
    && CF abc 3 text 16 0x0C
    && not (ZF abc 3 text 16 0x0C)
    && SF abc 3 text 16 0x0C
    && not (OF abc 3 text 16 0x0C)
    && eqb (index abc 3 text 16 0x4C) 14

-- U2: the match that the text's end cuts off is not kept
unfoldable pub U2 : Bool
U2 =
    eqb (first_result abc 3 text 15 0x0C) 0x0020 && eqb (result abc 3 text 15 0x0C) 0x0020
    && ZF abc 3 text 15 0x0C

-- U3: an empty needle stands everywhere
unfoldable pub U3 : Bool
U3 = eqb (first_result [] 0 [] 0 0x0C) 0xFFFF && eqb (index [] 0 [] 0 0x0C) 0 && OF [] 0 [] 0 0x0C

-- U4: an empty set has no member
unfoldable pub U4 : Bool
U4 = eqb (index [] 0 [] 0 0x00) 16 && not (CF [] 0 [] 0 0x00)

-- U5: equal each, and the same negated
unfoldable pub U5 : Bool
U5 =
    eqb (result smith 5 smyth 5 0x08) 0xFFFB && eqb (result smith 5 smyth 5 0x18) 0x0004
    && eqb (index smith 5 smyth 5 0x18) 2

-- U6: negated where operand 2 is valid only
unfoldable pub U6 : Bool
U6 = eqb (result smith 5 smyth 5 0x38) 0xFFE4 && eqb (index smith 5 smyth 5 0x78) 15

-- U7: a range, and a lone lower bound
unfoldable pub U7 : Bool
U7 = eqb (result az 2 a_b 3 0x04) 0x0004 && eqb (result az 1 a_b 3 0x04) 0

-- U8: -1 to 1 signed, 255 to 1 unsigned
unfoldable pub U8 : Bool
U8 =
    eqb (result (0xFF ∷ 0x01 ∷ []) 2 (0x00 ∷ 0x80 ∷ []) 2 0x06) 0x0001
    && eqb (result (0xFF ∷ 0x01 ∷ []) 2 (0x00 ∷ 0x80 ∷ []) 2 0x04) 0

-- U9: eight bits and no more are negated in words
unfoldable pub U9 : Bool
U9 = eqb (index [] 0 [] 0 0x19) 8 && not (CF [] 0 [] 0 0x19)

unfoldable pub specimens : List Bool
specimens = U1 ∷ U2 ∷ U3 ∷ U4 ∷ U5 ∷ U6 ∷ U7 ∷ U8 ∷ U9 ∷ []

pub specimens_hold : T (all specimens)
unfolding least_below greatest_below tabulate number_of specimens U1 U2 U3 U4 U5 U6 U7 U8 U9 first_result result index CF ZF SF OF padded PCMPESTRI PCMPESTRM control_of explicit_length words_of flags_of index_of mask_of bit_mask element_mask int_res2 int_res1 bool_res
specimens_hold = tt

-- ---- lengths of 64 bits, whose low 32 bits mislead: alone they would be 0, -1, 3 and -3

abbrev pub least : ℤ
least = negsuc (2 ^ 63 - 1)

abbrev pub greatest : ℤ
greatest = pos (2 ^ 63 - 1)

abbrev pub above : ℤ
above = pos (2 ^ 32 + 3)

abbrev pub below : ℤ
below = negsuc (2 ^ 32 + 2)

unfoldable pub indexed : List ℕ → ℤ → List ℕ → ℤ → ℕ → IndexAnswer
indexed x₁ z₁ x₂ z₂ c = PCMPESTRI (padded x₁) z₁ (padded x₂) z₂ c

-- W1: -2^63 for both: sixteen bytes, or eight words, are compared, and the names differ
unfoldable pub W1 : Bool
W1 =
    eqb (indexed smith least smyth least 0x18).index 2
    && eqb (indexed smith least smyth least 0x19).index 1
    && not (indexed smith least smyth least 0x18).flags.zero
    && not (indexed smith least smyth least 0x18).flags.sign

-- W2: 2^63 - 1 bounds: the range from `A` to `Z` is among them, and `B` is in it
unfoldable pub W2 : Bool
W2 =
    eqb (indexed az greatest a_b (pos 3) 0x04).index 2
    && not (indexed az greatest a_b (pos 3) 0x04).flags.sign

-- W3: a needle of 2^32 + 3: `ABC` and thirteen zeros, whose front stands at the block's end alone
unfoldable pub W3 : Bool
W3 =
    eqb (indexed abc above text (pos 16) 0x0C).index 14
    && not (indexed abc above text (pos 16) 0x0C).flags.sign

-- W4: a text of -2^32 - 3: the whole block
unfoldable pub W4 : Bool
W4 =
    eqb (indexed abc (pos 3) text below 0x0C).index 5
    && not (indexed abc (pos 3) text below 0x0C).flags.zero

pub lengths_hold : T (all (W1 ∷ W2 ∷ W3 ∷ W4 ∷ []))
unfolding least_below tabulate number_of W1 W2 W3 W4 indexed padded PCMPESTRI control_of explicit_length words_of flags_of index_of int_res2 int_res1 bool_res
lengths_hold = tt

-- ---- masks, the narrow one and the wide one, by hand

unfoldable pub explicit_mask : List ℕ → ℕ → List ℕ → ℕ → ℕ → MaskAnswer
explicit_mask x₁ l₁ x₂ l₂ c = PCMPESTRM (padded x₁) (pos l₁) (padded x₂) (pos l₂) c

unfoldable pub implicit_mask : List ℕ → List ℕ → ℕ → MaskAnswer
implicit_mask x₁ x₂ c = PCMPISTRM (padded x₁) (padded x₂) c

-- M1: `SMITH` and `SMYTH`, equal each, negated: byte 2 alone differs
unfoldable pub M1 : Bool
M1 =
    same_list (explicit_mask smith 5 smyth 5 0x18).mask (0x04 ∷ replicate 15 0)
    && same_list (explicit_mask smith 5 smyth 5 0x58).mask (0 ∷ 0 ∷ 255 ∷ replicate 13 0)
    && (explicit_mask smith 5 smyth 5 0x18).flags.carry
    && (explicit_mask smith 5 smyth 5 0x58).flags.carry

-- M2: in words, two of each, not negated: `SM` and `IT` beside `SM` and `YT`
unfoldable pub M2 : Bool
M2 =
    same_list (explicit_mask smith 2 smyth 2 0x09).mask (0xFD ∷ replicate 15 0)
    && same_list (explicit_mask smith 2 smyth 2 0x49).mask
    (255 ∷ 255 ∷ 0 ∷ 0 ∷ replicate 12 255)

-- M3: implicit, `B` in the range `A` to `Z`
unfoldable pub M3 : Bool
M3 =
    same_list (implicit_mask az a_b 0x04).mask (0x04 ∷ replicate 15 0)
    && same_list (implicit_mask az a_b 0x44).mask (0 ∷ 0 ∷ 255 ∷ replicate 13 0)

-- M4: refused, with bit 6 or without
unfoldable pub M4 : Bool
M4 =
    same_list (explicit_mask smith 5 smyth 5 0x98).mask (replicate 16 0)
    && same_list (explicit_mask smith 5 smyth 5 0xD8).mask (replicate 16 0)
    && eqb (explicit_mask smith 5 smyth 5 0x98).refusal 1
    && eqb (explicit_mask smith 5 smyth 5 0xD8).refusal 1

pub masks_hold : T (all (M1 ∷ M2 ∷ M3 ∷ M4 ∷ []))
unfolding least_below tabulate number_of M1 M2 M3 M4 explicit_mask implicit_mask padded PCMPESTRM PCMPISTRM control_of explicit_length words_of flags_of mask_of bit_mask element_mask int_res2 int_res1 bool_res
masks_hold = tt
