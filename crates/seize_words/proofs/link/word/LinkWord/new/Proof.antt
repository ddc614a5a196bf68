-- `new` puts the keys beside the word, as that of a word does.
use Rattle.seize_book.proofs.Kit.{ℕ, ◌^◌, ◌<◌, List, [], ◌∷◌, refl, w64, proved, named, Ura, Val, vint, vptr, vstruct, vcons, vnil, SProp, ent, emp, Fml, ftrue, fsep, fex, flft, Logic, sem, ‵, ◌⊛◌, given, ◌$◌, ◌∵◌, !, qed, by, move, keep, drop, split, fsplit, fsplit3, fjoin, fjoin3, fpack, learn, use0, use1, rewrite, feq_i, done, no_more, and_then, returns, enter, alloc_all, pass_all, free_all, look_at, get, sets, agg, fact_i, tables, yes, RattleType, owns, types_at, plain, u64, makes_shadow, uint_vals, uint_Tells, mut_vals, mut_Tells, nothing, opens, closes, Stays, stay_dropped, stay_ref, walk_of, Goes-dropped, Goes-ref}
use denote.Laws.{Typed}
use Rattle.seize_book.specs.Ledger.{HeldKey}
use Rattle.seize_book.specs.Entry.{Entry}
use Rattle.seize_words.specs.Atomic.{site_of}
use Rattle.seize_book.specs.Private.{own_of}
use Rattle.seize_book.specs.Tokens.{keys_own}
use Rattle.seize_words.specs.Words.{Site, ShowsWord, AreOtherKeys, word_knows, word_owns}
use Rattle.seize_book.specs.contracts.book.keys.Keys as Keys
use Rattle.seize_words.specs.LinkSites.{shared_at}
use Rattle.seize_words.specs.contracts.link.word.LinkWord as LinkWord
use Rattle.seize_words.specs.contracts.word.Word as Word
use Rattle.seize_words.specs.contracts.word.Word.TheInside as Inside
use Rattle.seize_book.proofs.Fields.{ends}
use Rattle.seize_words.specs.contracts.link.word.LinkWord.new.{ended, clauses}
use Rattle.seize_words.specs.contracts.link.word.LinkWord.new.Key.{name as #self}
use Rattle.seize_words.proofs.link.word.LinkWord.new.Statement.{statement}
use Rattle.seize_words.proofs.link.word.LinkWord.new.Code as code

abbrev word_val : ℕ → Val
word_val n = vstruct (vcons (vint w64 n) vnil)

word_made : {M : Type 1} {𝓤 : Ura M} (𝓛 : Logic 𝓤) (d : Site) (n : ℕ) → n < 2 ^ 64 → ent 𝓤 (sem 𝓛 (word_owns d n)) (sem 𝓛 (LinkWord.the_row.own_val (shared_at d) (word_val n ∷ [])))
word_made {𝓤 = 𝓤} 𝓛 d n f = let S : RattleType = Inside.the_row in let vs : List Val = word_val n ∷ [] in let at : ℕ → S.Denot = λ m. record { bits = m } in
    let fits : Type 0 = Typed Word.the_row.mir vs in qed 𝓛 (‵ (word_owns d n) ∷ []) ∵
    use0 𝓛 (‵ (S.own_val (at n) vs)) (makes_shadow 𝓛 (S.own_val (at n) vs) (λ vss. (tt, ((tt, tt), tt))) ((vint w64 n ∷ [], tt), (refl, ((refl, f), tt)))) $
    fjoin ! $ fpack ! ℕ (λ m. fsep (S.own_val (at m) vs) (word_owns d m)) n $ use0 𝓛 (‵ (fex fits (λ _. ftrue))) (fact_i 𝓤 fits (emp 𝓤) ((tt, (record { fits = f }, tt)), tt)) $ fjoin ! $
    use0 𝓛 (‵ (fex fits (λ _. ftrue))) (fact_i 𝓤 fits (emp 𝓤) ((tt, (record { fits = f }, tt)), tt)) $ done !

pub new_spec : {M : Type 1} → statement M
new_spec 𝓤 𝓛 𝓜 𝓡 wired =
    let H = 𝓛.H in let 𝓣 = tables 𝓤 H 𝓜 𝓡 𝓡.env in let fn = code.function in let c = clauses 𝓛 𝓜.mem 𝓡.returns in
    let hs : Stays ended.signature.params ended.kept = (stay_dropped (plain (λ _. u64)) yes, (stay_ref (0 ∷ []) tt (plain (λ _. Keys.the_row)), tt)) in
    proved 𝓛 ended hs c 𝓜 𝓡 (Goes-dropped 𝓛 1 (plain (λ _. u64)) yes (λ κs x f. refl), (Goes-ref 𝓛 1 0 tt (plain (λ _. Keys.the_row)), tt)) #self fn (code.unfolded 𝓤 H 𝓜 𝓡 wired)
    (λ κs. (uint_vals w64, (mut_vals, tt))) (λ κs. (uint_Tells w64, (mut_Tells (named 0) κs.0 Keys.the_row, tt))) (λ κs qs bounds a gh are.
    let n : ℕ = a.0 in let keys = a.1.0.now in let kb : ℕ = a.1.0.ref_ptr.0 in let ko : ℕ = a.1.0.ref_ptr.1 in let site : Site = site_of keys in
    let since : List Entry = own_of keys.held in let vs : List (HeldKey Entry) = Rattle.std.specs.Prelude.drop 1 keys.held in
    let y : (walk_of 𝓛 ended hs c).Ghost = ((κs, qs, bounds, a, (vint w64 n ∷ [], (vptr kb ko ∷ [], tt))), gh) in let Post : Val → SProp 𝓤 = (walk_of 𝓛 ended hs c).post y in let toks : Fml = fsep (flft κs.0 qs.0) ftrue in
    qed 𝓛 ((‵ toks ⊛ ‵ (owns (types_at ended.signature.params κs) a y.0.4)) ∷ given _ (‵ ftrue) ∷ []) ∵ move ! (1 ∷ []) $ learn ! (λ asked. drop ! $ split ! $
    fsplit ! $ move ! (2 ∷ []) $ fsplit ! $ move ! (1 ∷ []) $ fsplit ! $ fsplit3 ! $
    -- [the keys, in three entries; nothing; the number; their token; nothing]
    keep ! (1 ∷ 2 ∷ 5 ∷ []) $
    enter ! 𝓣.C 𝓣.Λ fn (vint w64 n ∷ vptr kb ko ∷ []) Post $ alloc_all ! (λ l. pass_all ! refl ((tt, record { fits = are.0.1 }), ((tt, tt), tt)) $
    opens ! tt Keys.the_row kb ko (λ vs0. move ! (1 ∷ []) $ fsplit ! $ move ! (1 ∷ []) $ rewrite ! 0 (λ (hs : List (HeldKey Entry)). ‵ (keys_own keys.name hs)) asked.0 refl $
    -- [what the keys own; the keys; their cell, in four entries]
    nothing ! $ fpack ! (ShowsWord site n since × AreOtherKeys site since vs) (λ _. ftrue) (asked.1, asked.2) $ move ! (0 ∷ 1 ∷ []) $ fjoin ! $ fpack ! (List Entry × List (HeldKey Entry)) (word_knows site n) (since, vs) $
    use1 𝓛 (‵ (LinkWord.the_row.own_val (shared_at site) (word_val n ∷ []))) (word_made 𝓛 site n are.0.1) $
    -- [the word; the keys; their cell, in four entries]
    let keys' : Keys.the_row.Denot = record keys { held = [] } in
    nothing ! $ move ! (2 ∷ 0 ∷ []) $ fjoin ! $ move ! (2 ∷ 0 ∷ 3 ∷ 4 ∷ 5 ∷ []) $ closes ! tt Keys.the_row keys' vs0 kb ko $
    -- [the keys, in two; their token; the word]
    sets ! (agg ! (and_then ! (get ! refl) (no_more !))) refl (tt, (record { fits = are.0.1 }, tt)) $ move ! (3 ∷ []) $
    nothing ! $ move ! (4 ∷ 0 ∷ []) $ fjoin ! $
    -- [the tokens; the word; the keys, in two]
    nothing ! $ feq_i ! (List Val) (vptr kb ko ∷ []) (vptr kb ko ∷ []) refl $ move ! (0 ∷ 4 ∷ 5 ∷ []) $ fjoin3 ! $ fjoin ! $ nothing ! $ fjoin ! $
    returns ! (look_at ! 0 refl) $ free_all ! refl $ keep ! (1 ∷ 0 ∷ 2 ∷ []) $
    by ! (ends 𝓛 ended hs c y (word_val n) (shared_at site) (tt, (keys', tt)) (tt, (tt, tt)) (fact_i 𝓤 _ (emp 𝓤) (refl, refl, refl)))))))
