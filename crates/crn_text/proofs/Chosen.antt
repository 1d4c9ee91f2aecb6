-- The token that the tests of the first bytes choose, one after another.
use Rattle.crn_text.proofs.Prelude.{◌≡◌, ℕ, Bool, true, false, List, refl, sym, ap, false≢true, if◌then◌else◌, Token, token, is_name_kind, is_number_kind, is_plus_kind, is_arrow_kind, Number, Name, Plus, Arrow, BothWays, Back, Stray}

-- the token that the tests choose, of these bytes: digits, a name, one byte, two, three
abbrev pub chosen : (digit letter plus arrow both back : Bool) → (n m one two three : List ℕ) → Token
chosen digit letter plus arrow both back n m one two three =
    if digit then token Number n else (
    if letter then token Name m else (
    if plus then token Plus one else (
    if arrow then token Arrow two else (
    if both then token BothWays three else (
    if back then token Back two
    else token Stray one)))))

-- a name begins with no digit
pub name_is_no_digit : (d l p s t u : Bool) (n m one two three : List ℕ) → is_name_kind (chosen d l p s t u n m one two three).kind ≡ true → d ≡ false
name_is_no_digit true l p s t u n m one two three h = absurd (false≢true h)
name_is_no_digit false l p s t u n m one two three h = refl

-- a name begins with a letter
pub name_is_letter : (d l p s t u : Bool) (n m one two three : List ℕ) → is_name_kind (chosen d l p s t u n m one two three).kind ≡ true → l ≡ true
name_is_letter d true p s t u n m one two three h = refl
name_is_letter true false p s t u n m one two three h = absurd (false≢true h)
name_is_letter false false true s t u n m one two three h = absurd (false≢true h)
name_is_letter false false false true t u n m one two three h = absurd (false≢true h)
name_is_letter false false false false true u n m one two three h = absurd (false≢true h)
name_is_letter false false false false false true n m one two three h = absurd (false≢true h)
name_is_letter false false false false false false n m one two three h = absurd (false≢true h)

-- a number begins with a digit
pub number_is_digit : (d l p s t u : Bool) (n m one two three : List ℕ) → is_number_kind (chosen d l p s t u n m one two three).kind ≡ true → d ≡ true
number_is_digit true l p s t u n m one two three h = refl
number_is_digit false true p s t u n m one two three h = absurd (false≢true h)
number_is_digit false false true s t u n m one two three h = absurd (false≢true h)
number_is_digit false false false true t u n m one two three h = absurd (false≢true h)
number_is_digit false false false false true u n m one two three h = absurd (false≢true h)
number_is_digit false false false false false true n m one two three h = absurd (false≢true h)
number_is_digit false false false false false false n m one two three h = absurd (false≢true h)

-- without a plus no plus is chosen
pub no_plus_chosen : (d l p s t u : Bool) (n m one two three : List ℕ) → p ≡ false → is_plus_kind (chosen d l p s t u n m one two three).kind ≡ false
no_plus_chosen true l p s t u n m one two three h = refl
no_plus_chosen false true p s t u n m one two three h = refl
no_plus_chosen false false true s t u n m one two three h = h
no_plus_chosen false false false true t u n m one two three h = refl
no_plus_chosen false false false false true u n m one two three h = refl
no_plus_chosen false false false false false true n m one two three h = refl
no_plus_chosen false false false false false false n m one two three h = refl

-- without a mark of an arrow no arrow is chosen
pub no_arrow_chosen : (d l p s t u : Bool) (n m one two three : List ℕ) → s ≡ false → t ≡ false → u ≡ false → is_arrow_kind (chosen d l p s t u n m one two three).kind ≡ false
no_arrow_chosen true l p s t u n m one two three hs ht hu = refl
no_arrow_chosen false true p s t u n m one two three hs ht hu = refl
no_arrow_chosen false false true s t u n m one two three hs ht hu = refl
no_arrow_chosen false false false true t u n m one two three hs ht hu = absurd (false≢true (sym hs))
no_arrow_chosen false false false false true u n m one two three hs ht hu = absurd (false≢true (sym ht))
no_arrow_chosen false false false false false true n m one two three hs ht hu = absurd (false≢true (sym hu))
no_arrow_chosen false false false false false false n m one two three hs ht hu = refl

-- the tests choose the same token of bytes that are the same where they are chosen
pub same_chosen : (d l p s t u : Bool) (n m one two three n' m' two' three' : List ℕ) → n ≡ n' → m ≡ m' → (s ≡ true → two ≡ two') → (t ≡ true → three ≡ three') → (u ≡ true → two ≡ two') → chosen d l p s t u n m one two three ≡ chosen d l p s t u n' m' one two' three'
same_chosen true l p s t u n m one two three n' m' two' three' hn hm hs ht hu = ap (token Number) hn
same_chosen false true p s t u n m one two three n' m' two' three' hn hm hs ht hu = ap (token Name) hm
same_chosen false false true s t u n m one two three n' m' two' three' hn hm hs ht hu = refl
same_chosen false false false true t u n m one two three n' m' two' three' hn hm hs ht hu = ap (token Arrow) (hs refl)
same_chosen false false false false true u n m one two three n' m' two' three' hn hm hs ht hu = ap (token BothWays) (ht refl)
same_chosen false false false false false true n m one two three n' m' two' three' hn hm hs ht hu = ap (token Back) (hu refl)
same_chosen false false false false false false n m one two three n' m' two' three' hn hm hs ht hu = refl

-- what holds of each of the bytes holds of those of the token
pub each_chosen : (P : List ℕ → Type 0) (d l p s t u : Bool) (n m one two three : List ℕ) → P n → P m → P one → P two → P three → P (chosen d l p s t u n m one two three).text
each_chosen P true l p s t u n m one two three hn hm ho ha hb = hn
each_chosen P false true p s t u n m one two three hn hm ho ha hb = hm
each_chosen P false false true s t u n m one two three hn hm ho ha hb = ho
each_chosen P false false false true t u n m one two three hn hm ho ha hb = ha
each_chosen P false false false false true u n m one two three hn hm ho ha hb = hb
each_chosen P false false false false false true n m one two three hn hm ho ha hb = ha
each_chosen P false false false false false false n m one two three hn hm ho ha hb = ho
