-- Sums of names over shares that are added to others of their names.
use Rattle.crn_net.proofs.Prelude.{◌≡◌, ℕ, zero, suc, ◌+◌, ◌<◌, true, false, List, [], ◌∷◌, ◌++◌, length, get_or, set, take, map, refl, sym, ap, ◌∙◌, append_assoc, inl, inr, arith, ℤ, pos, negsuc, ◌+ℤ◌, ◌-ℤ◌, fold, bytes_eq, cases_Bool, ints, take_more, map_push, fold-append, amount_in, side_of, Share, Term, share_of, name_in, sum_in, no_share}
use Rattle.crn_net.proofs.Sums.{added, left_added, right_added}

-- ---- sums from another start

fold_from : (f : Share → ℤ) (start more : ℤ) (xs : List Share) → fold (λ a s. a +ℤ f s) (start +ℤ more) xs ≡ fold (λ a s. a +ℤ f s) start xs +ℤ more
fold_from f start more [] = refl
fold_from f start more (x ∷ xs) =
    let e : (start +ℤ more) +ℤ f x ≡ (start +ℤ f x) +ℤ more = omega (arith, ints) in
    ap (λ (a : ℤ). fold (λ b s. b +ℤ f s) a xs) e ∙ fold_from f (start +ℤ f x) more xs

fold_set : (f : Share → ℤ) (start : ℤ) (xs : List Share) (i : ℕ) (x d : Share) (more : ℤ) → i < length xs → f x ≡ f (get_or xs i d) +ℤ more → fold (λ a s. a +ℤ f s) start (set xs i x) ≡ fold (λ a s. a +ℤ f s) start xs +ℤ more
fold_set f start [] i x d more lt h = absurd (omega (arith, lt))
fold_set f start (y ∷ ys) zero x d more lt h =
    let e : start +ℤ f x ≡ (start +ℤ f y) +ℤ more = omega (arith, ints, h) in
    ap (λ (a : ℤ). fold (λ b s. b +ℤ f s) a ys) e ∙ fold_from f (start +ℤ f y) more ys
fold_set f start (y ∷ ys) (suc i) x d more lt h = fold_set f (start +ℤ f y) ys i x d more (omega (arith, lt)) h

-- ---- one share more

-- put after the others
pub sum_push : (text : List ℕ) (shares : List Share) (share : Share) (name : List ℕ) → sum_in text (shares ++ share ∷ []) name ≡ sum_in text shares name +ℤ added text name share
sum_push text shares share name = fold-append (λ a s. a +ℤ added text name s) (pos 0) shares (share ∷ [])

added_more : (text name : List ℕ) (x y z : Share) → name_in text x ≡ name_in text z → name_in text y ≡ name_in text z → x.count ≡ y.count +ℤ z.count → added text name x ≡ added text name y +ℤ added text name z
added_more text name x y z a b h =
    elim (cases_Bool (bytes_eq (name_in text z) name)) [
      | inl hit ↦
          let xs : bytes_eq (name_in text x) name ≡ true = ap (λ (n : List ℕ). bytes_eq n name) a ∙ hit in
          let ys : bytes_eq (name_in text y) name ≡ true = ap (λ (n : List ℕ). bytes_eq n name) b ∙ hit in
          rw (xs, ys, hit) h
      | inr miss ↦
          let xs : bytes_eq (name_in text x) name ≡ false = ap (λ (n : List ℕ). bytes_eq n name) a ∙ miss in
          let ys : bytes_eq (name_in text y) name ≡ false = ap (λ (n : List ℕ). bytes_eq n name) b ∙ miss in
          rw (xs, ys, miss) refl
    ]

-- added to one of its name
pub sum_set : (text : List ℕ) (shares : List Share) (share put : Share) (i : ℕ) (name : List ℕ) → i < length shares → name_in text (get_or shares i no_share) ≡ name_in text share → name_in text put ≡ name_in text (get_or shares i no_share) → put.count ≡ (get_or shares i no_share).count +ℤ share.count → sum_in text (set shares i put) name ≡ sum_in text (shares ++ share ∷ []) name
sum_set text shares share put i name lt same kept h =
    fold_set (added text name) (pos 0) shares i put no_share (added text name share) lt (added_more text name put (get_or shares i no_share) share (kept ∙ same) same h)
    ∙ sym (sum_push text shares share name)

-- ---- one term more

-- after a list whose sums are those of another
pub sum_on : (text : List ℕ) (shares olds more : List Share) (share : Share) (name : List ℕ) → sum_in text shares name ≡ sum_in text (olds ++ more) name → sum_in text (shares ++ share ∷ []) name ≡ sum_in text (olds ++ (more ++ share ∷ [])) name
sum_on text shares olds more share name h =
    let a = sum_push text shares share name in
    let b = sum_push text (olds ++ more) share name in
    let e : olds ++ (more ++ share ∷ []) ≡ (olds ++ more) ++ share ∷ [] = sym (append_assoc olds more (share ∷ [])) in
    a ∙ ap (λ (u : ℤ). u +ℤ added text name share) h ∙ sym b ∙ ap (λ (xs : List Share). sum_in text xs name) (sym e)

-- the shares of a side with one more term
pub shares_more : (sign : ℤ) (side : List Term) (i : ℕ) (d : Term) → i < length side → map (share_of sign) (take (i + 1) side) ≡ map (share_of sign) (take i side) ++ share_of sign (get_or side i d) ∷ []
shares_more sign side i d lt = ap (map (share_of sign)) (take_more side i d lt) ∙ map_push (share_of sign) (take i side) (get_or side i d)

-- a share of nothing adds nothing
pub sum_zero : (text : List ℕ) (shares : List Share) (share : Share) (name : List ℕ) → share.count ≡ pos 0 → sum_in text (shares ++ share ∷ []) name ≡ sum_in text shares name
sum_zero text shares share name h =
    let a = sum_push text shares share name in
    elim (cases_Bool (bytes_eq (name_in text share) name)) [
      | inl hit ↦ let b = rw hit at a in omega (arith, ints, b, h)
      | inr miss ↦ let b = rw miss at a in omega (arith, ints, b)
    ]

-- the shares of both sides, one side after the other
pub sum_both : (text : List ℕ) (shares : List Share) (left right : List Term) (name : List ℕ) → sum_in text shares name ≡ sum_in text (map (share_of (pos 1)) left) name → sum_in text (shares ++ map (share_of (negsuc 0)) right) name ≡ pos (amount_in (side_of text left) name) -ℤ pos (amount_in (side_of text right) name)
sum_both text shares left right name h =
    let both = fold-append (λ a s. a +ℤ added text name s) (pos 0) shares (map (share_of (negsuc 0)) right) in
    let l = left_added text name (pos 0) left in
    let r = right_added text name (sum_in text shares name) right in
    omega (arith, ints, both, l, r, h)
