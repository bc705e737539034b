-- What a board shows at the place of a post.
use Rattle.std.proofs.Common.{◌≡◌, ℕ, List, [], ◌∷◌, ◌++◌, map, fold, length, slice_get, refl, sym, ap, ◌∙◌, append_assoc, append-nil, Option, Some, None}
use Rattle.hay_front.specs.Fronts.{RowOf, IsBehind}
use Rattle.hay_front.proofs.Prefixes.{prefix_get, prefix_trans}
use Rattle.hay_lanes.proofs.Results.{mapped}
use Rattle.hay_thread_tests.specs.declared.board.Post.{Post}
use Rattle.hay_thread_tests.specs.Workers.{Shown}
use Rattle.hay_thread_tests.specs.LockedBoards.{IsPosted}

abbrev pub after : List ℕ → Post → List ℕ
after m p = m ++ p.seat ∷ []

abbrev pub row_is : List ℕ → ℕ → Option ℕ → Type 0
row_is m place row = row ≡ slice_get m place

fold_board : (m : List ℕ) (posts : List Post) → fold after m posts ≡ m ++ map (λ p. p.seat) posts
fold_board m [] = sym (append-nil m)
fold_board m (p ∷ posts) = fold_board (after m p) posts ∙ append_assoc m (p.seat ∷ []) (map (λ q. q.seat) posts)

-- what is put at the end stands there
pub at_end : {A : Type 0} → (xs : List A) (x : A) → slice_get (xs ++ x ∷ []) (length xs) ≡ Some x
at_end [] x = refl
at_end (y ∷ xs) x = at_end xs x

-- whoever has seen as much has seen the post
pub still_posted : (v w : Shown) (place : ℕ) (post : Post) → IsBehind v w → IsPosted v place post → IsPosted w place post
still_posted v w place post behind is = record { base = sym behind.1 ∙ is.base; at = prefix_get v.deeds w.deeds place post behind.2 is.at }

abbrev front_of : List ℕ → Option (List ℕ × List ℕ) → List ℕ
front_of m None = m
front_of m (Some p) = p.0

first_is : (base : Option (List ℕ × List ℕ)) (m b : List ℕ) → base ≡ Some (m, b) → base ≡ Some ([], []) → m ≡ []
first_is base m b p q = ap (front_of m) (sym p ∙ q)

pub behind_trans : (u v w : Shown) → IsBehind u v → IsBehind v w → IsBehind u w
behind_trans u v w p q = (p.0 ∙ q.0, p.1 ∙ q.1, prefix_trans u.deeds v.deeds w.deeds p.2 q.2)

pub row_shown : (w : Shown) (place : ℕ) (post : Post) (row : Option ℕ) → IsPosted w place post → RowOf after row_is w place row → row ≡ Some post.seat
row_shown w place post row is shown =
    let first : shown.1.0 ≡ [] = first_is w.base shown.1.0 shown.1.1 shown.1.2 is.base in
    shown.2 ∙ (ap (λ x. slice_get x place) (shown.1.3 ∙ (ap (λ m. fold after m w.deeds) first ∙ fold_board [] w.deeds)) ∙ mapped (λ p. p.seat) w.deeds place post is.at)
