use Rattle.crn_endo.proofs.Prelude.{◌≡◌, ◌++◌, ℕ, List, length, take, drop, sym, ap, subst, ◌∙◌, arith, length-replicate, written, bit_of, ShowsWeak}
use lib.ListN.{replicate}
use Rattle.crn_endo.proofs.WeakWords.{none_weak}
use Rattle.crn_endo.proofs.problem.weak_words.Goals as goal

pub put_weak_words-requires : goal.put_weak_words-requires
put_weak_words-requires c =
    let n = c.word_count.result in
    let made : c.in_ok-words.words.items ≡ replicate n 0 = (let free = c.in_ok-words.ensures.items_if_clones_equal in free (λ y e. e)) in
    record {
      matrix = c.requires;
      count = ap (λ (l : List ℕ). length l) (c.deref_mut.ensures.value ∙ made) ∙ length-replicate n 0 ∙ c.word_count.ensures;
      none = λ j. ap (λ (l : List ℕ). bit_of l j) (c.deref_mut.ensures.value ∙ made) ∙ none_weak n j;
    }

pub returns : goal.returns
returns c =
    let s = c.args.given.now in
    let old = c.in_ok-words.words in
    let new = c.put_weak_words.new.words in
    let long : length new ≡ old.len = omega (arith, c.put_weak_words.ensures.count, c.deref_mut.ensures.len, ap (λ (l : List ℕ). length l) c.deref_mut.ensures.value) in
    let is : take old.len (new ++ drop (length new) old.items) ≡ new = written old.len new old.items long in
    subst (ShowsWeak s.net s.reaction) (sym is) c.put_weak_words.ensures.shown
