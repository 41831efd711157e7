-- Refused calls change nothing: the tags among the answers to a list of calls are those among the answers to its accepted calls
-- alone.
use mathlib.Core.Path.{◌≡◌, refl, ap, ◌∙◌}
use mathlib.Core.List.{List, [], ◌∷◌}
use Prim.Native.Nat.{ℕ}
use Rattle.cipher.specs.Coding.{Set}
use Rattle.driver.proofs.SessionLaws.{first_either}
use Rattle.claims.specs.Model.{Call, block_call, last_call, Answer, accepted, tag, refused, State, refusals, block_taken, tag_of, last_taken, model_call}
use Rattle.claims.specs.Calls.{run, accepted_calls, tags_of}

-- an answer and a state after the state s: the same s where the call was refused
data Fair (s : State) : Answer × State → Type 0 where
  stays : {q : ℕ} → Fair s (refused q, s)
  takes : {s' : State} → Fair s (accepted, s')
  gives : {t : List ℕ} {s' : State} → Fair s (tag t, s')

module _ (f : Call → State → Answer × State) (fair : (c : Call) (s : State) → Fair s (f c s)) where
  accepted_tags : (cs : List Call) (s : State) → tags_of (run f (accepted_calls cs (run f cs s)) s) ≡ tags_of (run f cs s)
  unfolding tags_of run accepted_calls
  accepted_tags [] s = refl
  accepted_tags (c ∷ cs) s = go (f c s) (fair c s) refl (accepted_tags cs)
    where
      go : (r : Answer × State) → Fair s r → f c s ≡ r → ((s : State) → tags_of (run f (accepted_calls cs (run f cs s)) s) ≡ tags_of (run f cs s))
          → tags_of (run f (accepted_calls (c ∷ cs) (r.0 ∷ run f cs r.1)) s) ≡ tags_of (r.0 ∷ run f cs r.1)
      go r (stays) e k = k s
      go r (takes {s'}) e k = ap (λ (r : Answer × State). tags_of (r.0 ∷ run f (accepted_calls cs (run f cs s')) r.1)) e ∙ k s'
      go r (gives {t} {s'}) e k =
          ap (λ (r : Answer × State). tags_of (r.0 ∷ run f (accepted_calls cs (run f cs s')) r.1)) e ∙ ap {B = List (List ℕ)} (λ l. t ∷ l) (k s')

module _ (E : List ℕ → List ℕ) (U S : Set) where
  model_fair : (c : Call) (s : State) → Fair s (model_call E U S c s)
  unfolding model_call
  model_fair (block_call m) s = first_either (Fair s) (refusals (block_call m) s) (λ q. (refused q, s)) (accepted, block_taken E U m s) (λ q. stays) (λ c. takes)
  model_fair (last_call m k) s = first_either (Fair s) (refusals (last_call m k) s) (λ q. (refused q, s)) (tag (tag_of E U S m k s), last_taken s) (λ q. stays) (λ c. gives)

  pub model_tags : (cs : List Call) (s : State) → tags_of (run (model_call E U S) (accepted_calls cs (run (model_call E U S) cs s)) s) ≡ tags_of (run (model_call E U S) cs s)
  model_tags cs s = accepted_tags (model_call E U S) model_fair cs s
