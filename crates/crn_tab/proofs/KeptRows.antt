-- What is known of rows and of an exchange of them, if other lists hold the same.
use Rattle.crn_tab.proofs.Prelude.{◌≡◌, ◌≢◌, ◌<◌, ◌≤◌, ◌*◌, ◌^◌, ℕ, List, Bool, length, sym, subst, arith, ℤ, IsTrue, pos, entry, row_at, AreBelow, AreFilled, AreRows, AreRowsBelow, IsKeptRow}
use Rattle.crn_tab.proofs.Finish.{below_list, below_row}

pub kept_at : (w w' m : ℕ) (rows rows' : List ℤ) → w' ≡ w → rows' ≡ rows → ((i : ℕ) → i < m → IsKeptRow w (row_at w rows i)) → (i : ℕ) → i < m → IsKeptRow w' (row_at w' rows' i)
kept_at w w' m rows rows' ew er h =
    let A : ℕ → Type 0 = λ n. (i : ℕ) → i < m → IsKeptRow n (row_at n rows' i) in
    let B : List ℤ → Type 0 = λ v. (i : ℕ) → i < m → IsKeptRow w (row_at w v i) in
    subst A (sym ew) (subst B (sym er) h)

pub some_at : (w w' c r : ℕ) (rows rows' : List ℤ) → w' ≡ w → rows' ≡ rows → entry (row_at w rows r) c ≢ pos 0 → entry (row_at w' rows' r) c ≢ pos 0
some_at w w' c r rows rows' ew er h =
    let A : ℕ → Type 0 = λ n. entry (row_at n rows' r) c ≢ pos 0 in
    let B : List ℤ → Type 0 = λ v. entry (row_at w v r) c ≢ pos 0 in
    subst A (sym ew) (subst B (sym er) h)

pub rows_below : (b w m : ℕ) (rows rows' : List ℤ) → 1 ≤ b → rows' ≡ rows → AreBelow b rows → AreRowsBelow b w m rows'
rows_below b w m rows rows' some e h = subst (AreRowsBelow b w m) (sym e) (λ i lt. below_row b w i rows some h)

pub filled_at : (w w' m c r : ℕ) (rows rows' new new' : List ℤ) (order : List ℕ) (least : ℕ) → w' ≡ w → rows' ≡ rows → new' ≡ new
    → AreFilled w' m c r rows' new' order least → AreFilled w m c r rows new order least
filled_at w w' m c r rows rows' new new' order least ew er en h =
    let A : ℕ → Type 0 = λ n. AreFilled n m c r rows' new' order least in
    let B : List ℤ → Type 0 = λ v. AreFilled w m c r v new' order least in
    let C : List ℤ → Type 0 = λ v. AreFilled w m c r rows v order least in
    subst C en (subst B er (subst A ew h))

-- rows after an exchange in place
pub rows_in_place : (w m : ℕ) (new new' : List ℤ) (low short : Bool) (spare_room : ℕ) → new' ≡ new → 1 ≤ w → length new ≡ m * w
    → (IsTrue low → AreRowsBelow (2 ^ 30) w m new) → (IsTrue short → AreRowsBelow (2 ^ 14) w m new) → length new ≤ spare_room → AreRows new' low short spare_room
rows_in_place w m new new' low short spare_room e some long low_rows short_rows fits =
    let R : List ℤ → Type 0 = λ v. AreRows v low short spare_room in
    subst R (sym e) (record {
      low_is = λ yes. below_list (2 ^ 30) w m new (omega arith) some long (low_rows yes);
      short_is = λ yes. below_list (2 ^ 14) w m new (omega arith) some long (short_rows yes);
      spare_fits = fits;
    })
