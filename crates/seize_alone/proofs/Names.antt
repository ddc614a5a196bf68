-- What was handed, and what was put with it, has names and kinds; by these it is what the reclaimer puts, and the values gone.
--     its_names, its_kinds     the names and kinds of all that was handed, and put
--     puts_some, weight_some   what the reclaimer puts, and what values weigh, where some numbers stand for nothing
use Rattle.std.proofs.Common.{◌≡◌, ℕ, ◌<◌, true, List, [], ◌∷◌, ◌++◌, map, inl, inr, Option, Some, None, refl, sym, ap, subst, ◌∙◌, arith}
use Rattle.std.specs.Prelude.{sum}
use base.Stored.{Coded, Gv}
use Rattle.seize_machine.specs.Machine.State.{are_distinct, linked_values}
use Rattle.seize_model.specs.Waiting.Further.{Lighter, put_by}
use Rattle.seize_model.specs.Agreement.Shows.{StandFor}
use Rattle.seize_book.specs.Book.{IsLegalList}
use Rattle.seize_book.specs.Entry.{Entry}
use Rattle.seize_book.specs.Kept.{AllTold, IsTold, SaysKept}
use Rattle.seize_book.specs.Tokens.{Name, start}
use Rattle.seize_words.specs.Chunks.{IsLentAs}
use Rattle.seize_calls.specs.Handing.{AreTheirs, Had, Handings, values_handed}
use Rattle.seize_alone.specs.Gone.{AreNamesOf, HadAre, PutAs}
use Rattle.seize_alone.specs.Holding.{AreLent, AreOfKinds, found, some_value}
use Rattle.seize_alone.proofs.Found.{Knows, found_lent, found_told, has_first, has_left, has_right, lent_append, same_some, told_append}
use Rattle.seize_alone.proofs.Whole.{AllServe, EachSaid}

abbrev pub puts_some : {T R : Type 0} → (R → T → List T) → Option R → Option T → List (Option T)
puts_some puts None v = []
puts_some puts (Some r) None = []
puts_some puts (Some r) (Some v) = map Some (puts r v)

abbrev pub weight_some : {T : Type 0} → (T → ℕ) → Option T → ℕ
weight_some weight None = 1
weight_some weight (Some v) = weight v

some_weights : {T : Type 0} (weight : T → ℕ) (xs : List T) → map (weight_some weight) (map Some xs) ≡ map weight xs
some_weights weight [] = refl
some_weights weight (x ∷ xs) = ap (λ (ns : List ℕ). weight x ∷ ns) (some_weights weight xs)

-- since each value weighs more than what is put with it, it weighs something
pub some_lighter : {T : Type 0} (puts : ℕ → T → List T) (weight : T → ℕ) → Lighter puts weight → Lighter (puts_some puts) (weight_some weight)
some_lighter puts weight lighter None None = omega arith
some_lighter puts weight lighter None (Some v) = let one = lighter 0 v in omega (arith, one)
some_lighter puts weight lighter (Some r) None = omega arith
some_lighter puts weight lighter (Some r) (Some v) = subst (λ (ns : List ℕ). sum ns < weight v) (sym (some_weights weight (puts r v))) (lighter r v)

abbrev zip_names : {T : Type 0} → List ℕ → List T → List (ℕ × T)
zip_names (v ∷ vs) (x ∷ xs) = (v, x) ∷ zip_names vs xs
zip_names _ _ = []

abbrev of_kind : ℕ → List ℕ → List (ℕ × ℕ)
of_kind kind vs = map {B = ℕ × ℕ} (λ v. (v, kind)) vs

abbrev pub its_kinds : Handings → Had → List (ℕ × ℕ)
its_kinds (h ∷ handed) (one ∷ had) = ((h.0, one.0) ∷ of_kind one.0 one.2) ++ its_kinds handed had
its_kinds _ _ = []

says_kind : (log : List Entry) (kind : ℕ) (vs : List ℕ) → ((v k : ℕ) → SaysKept vs (map (λ _. kind) vs) v k → IsTold log v k) → AreOfKinds log (of_kind kind vs)
says_kind log kind [] says = tt
says_kind log kind (v ∷ vs) says = (says v kind (inl (refl, refl)), says_kind log kind vs (λ w k s. says w k (inr s)))

module _ {T : Type 0} (c : Coded T) (puts : ℕ → T → List T) where
  abbrev pub its_names : (handed : Handings) (had : Had) → PutAs c.code puts had → List (ℕ × T)
  its_names [] had put = []
  its_names (h ∷ handed) [] put = []
  its_names (h ∷ handed) (one ∷ had) put = ((h.0, put.0.0) ∷ zip_names one.2 (puts one.0 put.0.0)) ++ its_names handed had put.1

  zip_lent : (vs : List ℕ) (xs : List T) → AreNamesOf c.code vs xs → AreLent c.code (zip_names vs xs)
  zip_lent [] [] are = tt
  zip_lent [] (x ∷ xs) are = absurd are
  zip_lent (v ∷ vs) [] are = absurd are
  zip_lent (v ∷ vs) (x ∷ xs) are = (are.0, zip_lent vs xs are.1)

  pub names_lent : (handed : Handings) (kepts : List ℕ) (had : Had) (put : PutAs c.code puts had) → AreTheirs handed kepts had → AreLent c.code (its_names handed had put)
  names_lent [] kepts had put theirs = tt
  names_lent (h ∷ handed) kepts [] put theirs = tt
  names_lent (h ∷ handed) [] (one ∷ had) put theirs = absurd theirs
  names_lent (h ∷ handed) (k ∷ kepts) (one ∷ had) put theirs =
      lent_append c ((h.0, put.0.0) ∷ zip_names one.2 (puts one.0 put.0.0)) (its_names handed had put.1)
      (subst (λ (g : Gv). IsLentAs h.0 g) (sym put.0.1) theirs.0.1, zip_lent one.2 (puts one.0 put.0.0) put.0.2) (names_lent handed kepts had put.1 theirs.1)

  -- of each that was put with one value the list says the kind
  puts_told : (log : List Entry) (h : ℕ × List ℕ × List ℕ) (one : ℕ × Gv × List ℕ × List ℕ) → one.2 ≡ h.1 → one.3 ≡ h.2 → one.3 ≡ map (λ _. one.0) one.2 → ((v k : ℕ) → SaysKept h.1 h.2 v k → IsTold log v k) → AreOfKinds log (of_kind one.0 one.2)
  puts_told log h one ns ws kinds said = says_kind log one.0 one.2 (λ v k s. said v k (subst (λ (t : List ℕ × List ℕ). SaysKept t.0 t.1 v k) (λ i. (ns i, (sym kinds ∙ ws) i)) s))

  pub kinds_told : (log : List Entry) (handed : Handings) (kepts : List ℕ) (had : Had) → PutAs c.code puts had → AreTheirs handed kepts had → AllTold log (values_handed handed) kepts → EachSaid log handed → AreOfKinds log (its_kinds handed had)
  kinds_told log [] kepts had put theirs told said = tt
  kinds_told log (h ∷ handed) kepts [] put theirs told said = tt
  kinds_told log (h ∷ handed) [] (one ∷ had) put theirs told said = absurd theirs
  kinds_told log (h ∷ handed) (k ∷ kepts) (one ∷ had) put theirs told said =
      told_append log ((h.0, one.0) ∷ of_kind one.0 one.2) (its_kinds handed had)
      (subst (λ (kind : ℕ). IsTold log h.0 kind) (sym theirs.0.0) told.0, puts_told log h one theirs.0.2 theirs.0.3 put.0.3 said.0) (kinds_told log handed kepts had put.1 theirs.1 told.1 said.1)

  -- Each is found among more.

  module _ (n : Name) (log : List Entry) (distinct : are_distinct (linked_values n.links) ≡ true) (legal : IsLegalList (start n) log) (names : List (ℕ × T)) (kinds : List (ℕ × ℕ)) (lent : AreLent c.code names) (told : AreOfKinds log kinds) where
    each_put : (kind : ℕ) (vs : List ℕ) (xs : List T) → AreNamesOf c.code vs xs → AreOfKinds log (of_kind kind vs) → Knows (zip_names vs xs) names → Knows (of_kind kind vs) kinds
        → map {B = Option T × Option ℕ} (λ m. (found names m, found kinds m)) vs ≡ map (λ x. (x, Some kind)) (map Some xs)
    each_put kind [] [] are its inside within = refl
    each_put kind [] (x ∷ xs) are its inside within = absurd are
    each_put kind (v ∷ vs) [] are its inside within = absurd are
    each_put kind (v ∷ vs) (x ∷ xs) are its inside within =
        λ i. (found_lent c names lent v x are.0 (inside v (has_first (v, x) (zip_names vs xs))) i, found_told n log distinct legal kinds told v kind its.0 (within v (has_first (v, kind) (of_kind kind vs))) i)
        ∷ each_put kind vs xs are.1 its.1 (λ m has. inside m (has_right ((v, x) ∷ []) (zip_names vs xs) m has)) (λ m has. within m (has_right ((v, kind) ∷ []) (of_kind kind vs) m has)) i

    -- one that was handed
    pub record IsFoundHanded (h : ℕ × List ℕ × List ℕ) (one : ℕ × Gv × List ℕ × List ℕ) (x : T) : Type 0 where
      pub name : found names h.0 ≡ Some x
      pub kind : found kinds h.0 ≡ Some one.0

    found_handed : (h : ℕ × List ℕ × List ℕ) (handed : Handings) (k : ℕ) (kepts : List ℕ) (one : ℕ × Gv × List ℕ × List ℕ) (had : Had) (put : PutAs c.code puts (one ∷ had)) → AreTheirs (h ∷ handed) (k ∷ kepts) (one ∷ had) → IsTold log h.0 k
        → Knows (its_names (h ∷ handed) (one ∷ had) put) names → Knows (its_kinds (h ∷ handed) (one ∷ had)) kinds → IsFoundHanded h one put.0.0
    found_handed h handed k kepts one had put theirs its inside within = record {
      name = found_lent c names lent h.0 put.0.0 (subst (λ (g : Gv). IsLentAs h.0 g) (sym put.0.1) theirs.0.1) (inside h.0 (has_first (h.0, put.0.0) (zip_names one.2 (puts one.0 put.0.0) ++ its_names handed had put.1)));
      kind = found_told n log distinct legal kinds told h.0 one.0 (subst (λ (w : ℕ). IsTold log h.0 w) (sym theirs.0.0) its) (within h.0 (has_first (h.0, one.0) (of_kind one.0 one.2 ++ its_kinds handed had)));
    }

    pub serve_all : (handed : Handings) (kepts : List ℕ) (had : Had) (put : PutAs c.code puts had) → AreTheirs handed kepts had → AllTold log (values_handed handed) kepts → EachSaid log handed
        → Knows (its_names handed had put) names → Knows (its_kinds handed had) kinds → AllServe (puts_some puts) (found names) (found kinds) handed
    serve_all [] kepts had put theirs all_told said inside within = tt
    serve_all (h ∷ handed) [] had put theirs all_told said inside within = absurd theirs
    serve_all (h ∷ handed) (k ∷ kepts) [] put theirs all_told said inside within = absurd theirs
    serve_all (h ∷ handed) (k ∷ kepts) (one ∷ had) put theirs all_told said inside within =
        let its : IsFoundHanded h one put.0.0 = found_handed h handed k kepts one had put theirs all_told.0 inside within in
        let here_names = (h.0, put.0.0) ∷ zip_names one.2 (puts one.0 put.0.0) in let here_kinds = (h.0, one.0) ∷ of_kind one.0 one.2 in
        let here = each_put one.0 one.2 (puts one.0 put.0.0) put.0.2 (puts_told log h one theirs.0.2 theirs.0.3 put.0.3 said.0)
        (λ m has. inside m (has_left here_names (its_names handed had put.1) m (has_right ((h.0, put.0.0) ∷ []) (zip_names one.2 (puts one.0 put.0.0)) m has)))
        (λ m has. within m (has_left here_kinds (its_kinds handed had) m (has_right ((h.0, one.0) ∷ []) (of_kind one.0 one.2) m has))) in
        let stands : StandFor (found names) (found kinds) h.1 (put_by (puts_some puts) (found names h.0, found kinds h.0)) =
        ap (map {B = Option T × Option ℕ} (λ m. (found names m, found kinds m))) (sym theirs.0.2) ∙ here ∙ (λ i. put_by (puts_some puts) (sym its.name i, sym its.kind i)) in
        (stands, serve_all handed kepts had put.1 theirs.1 all_told.1 said.1 (λ m has. inside m (has_right here_names (its_names handed had put.1) m has)) (λ m has. within m (has_right here_kinds (its_kinds handed had) m has)))

    abbrev head_or : Option T × Option ℕ → List (Option T × Option ℕ) → Option T × Option ℕ
    head_or d [] = d
    head_or d (v ∷ vs) = v

    abbrev rest_of : List (Option T × Option ℕ) → List (Option T × Option ℕ)
    rest_of [] = []
    rest_of (v ∷ vs) = vs

    pub are_had : (handed : Handings) (kepts : List ℕ) (had : Had) (put : PutAs c.code puts had) → AreTheirs handed kepts had → AllTold log (values_handed handed) kepts → Knows (its_names handed had put) names → Knows (its_kinds handed had) kinds
        → (gone : List (T × ℕ)) → StandFor (found names) (found kinds) (values_handed handed) (map some_value gone) → HadAre c.code had gone
    are_had [] [] [] put theirs all_told inside within [] is = tt
    are_had [] [] [] put theirs all_told inside within (v ∷ gone) is = absurd (cc)
    are_had [] [] (one ∷ had) put theirs all_told inside within gone is = absurd theirs
    are_had [] (k ∷ kepts) had put theirs all_told inside within gone is = absurd theirs
    are_had (h ∷ handed) [] had put theirs all_told inside within gone is = absurd theirs
    are_had (h ∷ handed) (k ∷ kepts) [] put theirs all_told inside within gone is = absurd theirs
    are_had (h ∷ handed) (k ∷ kepts) (one ∷ had) put theirs all_told inside within [] is = absurd (cc)
    are_had (h ∷ handed) (k ∷ kepts) (one ∷ had) put theirs all_told inside within (v ∷ gone) is =
        let its : IsFoundHanded h one put.0.0 = found_handed h handed k kepts one had put theirs all_told.0 inside within in
        let first = ap (head_or (None, None)) is in
        let value : put.0.0 ≡ v.0 = same_some put.0.0 v.0 (sym its.name ∙ ap (λ (p : Option T × Option ℕ). p.0) first) in
        let kind : one.0 ≡ v.1 = same_some one.0 v.1 (sym its.kind ∙ ap (λ (p : Option T × Option ℕ). p.1) first) in (
          (sym put.0.1 ∙ ap c.code value, kind),
          are_had handed kepts had put.1 theirs.1 all_told.1 (λ m has. inside m (has_right ((h.0, put.0.0) ∷ zip_names one.2 (puts one.0 put.0.0)) (its_names handed had put.1) m has))
              (λ m has. within m (has_right ((h.0, one.0) ∷ of_kind one.0 one.2) (its_kinds handed had) m has)) gone (ap rest_of is),
        )
