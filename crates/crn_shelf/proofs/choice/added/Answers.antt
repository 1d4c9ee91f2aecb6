use Rattle.crn_shelf.proofs.Prelude.{◌≡◌, ◌<◌, ◌++◌, ℕ, List, [], ◌∷◌, length, take, drop, sym, ap, subst, ◌∙◌, arith, length-replicate, Sign, Kind, Mat, width, Shape, shelf_kinds, shelf_matrix, kind_at, written, Bits, kind_in, word_count, IsAdded, IsWith, added_kind}
use Rattle.crn_shelf.proofs.Gradual.{adds}
use Rattle.crn_shelf.proofs.Joins.{blank_kind}
use Rattle.crn_shelf.proofs.choice.added.Goals as goal

-- words of what an option adds after some options
are_added : (s : Shape) (a : Mat) (q prefix : List Sign) (o : Sign) (words : List Bits) → a ≡ shelf_matrix s → prefix ≡ q ++ o ∷ [] → length words ≡ word_count a
    → ((k : ℕ) → k < width a → kind_in words k ≡ added_kind (kind_at (shelf_kinds s q) k) (kind_at (shelf_kinds s prefix) k)) → IsAdded s (length q) o words
are_added s a q prefix o words is e long each = record {
  count = long ∙ ap word_count is;
  each = λ p k same lt.
      let at = each k (subst (λ (b : Mat). k < width b) (sym is) lt) in
      let there = at ∙ ap (λ (r : List Sign). added_kind (kind_at (shelf_kinds s q) k) (kind_at (shelf_kinds s r) k)) e in
      subst (λ (x : Kind). IsWith (kind_at (shelf_kinds s p) k) x (kind_at (shelf_kinds s (p ++ o ∷ [])) k)) (sym there) (adds s p q o k same);
}

pub put_added-requires : goal.put_added-requires
put_added-requires c =
    let blank = c.in_ok-words.ensures.items_if_clones_equal (λ y e. e) in
    record {
      matrix = c.requires;
      count = ap (λ (l : List Bits). length l) (c.deref_mut.ensures.value ∙ blank) ∙ length-replicate _ _ ∙ c.word_count.ensures;
      free = λ j. ap (λ (l : List Bits). kind_in l j) (c.deref_mut.ensures.value ∙ blank) ∙ blank_kind _ j;
    }

pub returns : goal.returns
returns c =
    let s = c.args.shape.now in
    let q = c.args.before.now in
    let o = c.args.option in
    let old = c.in_ok-words.words in
    let new = c.put_added.new.words in
    let made = c.put_added.ensures in
    let long : length new ≡ old.len = omega (arith, made.count, c.in_ok-words.ensures.len, c.word_count.ensures) in
    let is : take old.len (new ++ drop (length new) old.items) ≡ new = written old.len new old.items long in
    subst (IsAdded s (length q) o) (sym is) (are_added s c.args.matrix.now q c.deref.result.now o new c.requires (c.deref.ensures.value ∙ c.in_ok-prefix.ensures) made.count made.added)
