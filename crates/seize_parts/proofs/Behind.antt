-- What was had with nothing put, and what waits behind what waited before.
use Rattle.std.proofs.Common.{◌≡◌, ℕ, List, [], ◌∷◌, ◌++◌, append_assoc, refl, sym, ap, ◌∙◌, arith}
use Rattle.std.proofs.lemmas.List.{append-nil}
use base.Stored.{Gv}
use Rattle.seize_book.specs.Kept.{kepts_of}
use Rattle.seize_book.specs.Tokens.{Name}
use Rattle.seize_book.specs.Values.{values_of}
use Rattle.seize_calls.specs.Aparts.{without_puts}
use Rattle.seize_calls.specs.Furthers.{further_in}
use Rattle.seize_calls.specs.Handing.{Had, IsServed}
use Rattle.seize_calls.specs.Weights.{AreLight, AreWeighed}
use Rattle.seize_calls.specs.declared.further.Further.{Further}
use Rattle.seize_parts.specs.Aparts.{IsBehind, WaitsBehind, values_put_in, words_put_in}

-- With nothing put.

pub without_append : (a b : Had) → without_puts (a ++ b) ≡ without_puts a ++ without_puts b
without_append [] b = refl
without_append (one ∷ a) b = ap (λ (had : Had). (one.0, one.1, [], []) ∷ had) (without_append a b)

pub all_nothing : (ls : List ℕ) → AreWeighed (λ _ (n : ℕ). n ≡ 0) ls
all_nothing [] = ([], tt)
all_nothing (l ∷ ls) = let rest = all_nothing ls in (0 ∷ rest.0, (refl, rest.1))

pub none_light : (had : Had) → AreLight (λ _ (n : ℕ). n ≡ 0) (without_puts had)
none_light [] = tt
none_light (one ∷ had) = ((0, [], refl, tt, omega arith), none_light had)

-- What was put.

pub values_append : (a b : Had) → values_put_in (a ++ b) ≡ values_put_in a ++ values_put_in b
values_append [] b = refl
values_append (one ∷ a) b = ap (λ (vs : List ℕ). one.2 ++ vs) (values_append a b) ∙ sym (append_assoc one.2 (values_put_in a) (values_put_in b))

pub words_append : (a b : Had) → words_put_in (a ++ b) ≡ words_put_in a ++ words_put_in b
words_append [] b = refl
words_append (one ∷ a) b = ap (λ (vs : List ℕ). one.3 ++ vs) (words_append a b) ∙ sym (append_assoc one.3 (words_put_in a) (words_put_in b))

-- one more went
pub behind_more : (n : Name) (values words : List ℕ) (had : Had) (one : ℕ × Gv × List ℕ × List ℕ) (had' : Had) (queue queue' : Further) → IsBehind n values words had queue → had' ≡ had ++ one ∷ [] → IsServed (further_in queue') n
    → values_of (further_in queue') ≡ values_of (further_in queue) ++ one.2 → kepts_of (further_in queue') ≡ kepts_of (further_in queue) ++ one.3 → IsBehind n values words had' queue'
behind_more n values words had one had' queue queue' is more served vs ks = record {
  served = served;
  values = vs ∙ ap (λ (l : List ℕ). l ++ one.2) is.values ∙ append_assoc values (values_put_in had) one.2
      ∙ ap (λ (l : List ℕ). values ++ l) (ap (λ (l : List ℕ). values_put_in had ++ l) (sym (append-nil one.2)) ∙ sym (values_append had (one ∷ [])) ∙ ap values_put_in (sym more));
  words = ks ∙ ap (λ (l : List ℕ). l ++ one.3) is.words ∙ append_assoc words (words_put_in had) one.3
      ∙ ap (λ (l : List ℕ). words ++ l) (ap (λ (l : List ℕ). words_put_in had ++ l) (sym (append-nil one.3)) ∙ sym (words_append had (one ∷ [])) ∙ ap words_put_in (sym more));
}

-- none did
pub behind_none : (n : Name) (values words : List ℕ) (had : Had) (queue : Further) → had ≡ [] → IsServed (further_in queue) n → values_of (further_in queue) ≡ values → kepts_of (further_in queue) ≡ words → IsBehind n values words had queue
behind_none n values words had queue none served vs ks = record {
  served = served;
  values = vs ∙ sym (append-nil values) ∙ ap (λ (h : Had). values ++ values_put_in h) (sym none);
  words = ks ∙ sym (append-nil words) ∙ ap (λ (h : Had). words ++ words_put_in h) (sym none);
}

-- what waited before is known
pub behind_since : (n : Name) (values words : List ℕ) (had : Had) (queue queue' : Further) → values_of (further_in queue) ≡ values → kepts_of (further_in queue) ≡ words → IsBehind n values words had queue' → WaitsBehind n had queue queue'
behind_since n values words had queue queue' vs ks is = record {
  served = is.served;
  values = is.values ∙ ap (λ (l : List ℕ). l ++ values_put_in had) (sym vs);
  words = is.words ∙ ap (λ (l : List ℕ). l ++ words_put_in had) (sym ks);
}
