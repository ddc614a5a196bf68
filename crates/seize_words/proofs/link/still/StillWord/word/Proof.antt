-- `word` reads the memory, which stays as it is while it is borrowed.
use Rattle.seize_book.proofs.Kit.{◌≡◌, ℕ, ◌^◌, ◌<◌, List, [], ◌∷◌, ◌++◌, refl, sym, ◌∙◌, w64, proved, Ura, Val, vint, vptr, vstruct, vcons, vnil, SProp, emp, Lft, Share, ftrue, flft, Logic, ‵, raw, ◌⊛◌, ◌$◌, ◌∵◌, !, qed, by, move, keep, split, fjoin, fsplit, use1, rewrite, feq_i, flt_i, stop, of_opd, returns, enter, alloc_all, pass_all, free_all, look_at, through, sets, fact_i, tables, yes, RattleType, owns, types_at, plain, RefOf, shr_vals, shr_Tells, nothing, Stays, stay_dropped, walk_of, Goes-dropped, named, of_list}
use types.Run.{fld, load}
use base.Fml.{fhide}
use types.Part.{look_in, sub, whole}
use denote.Copied.{Struct-Copied}
use denote.Laws.{Is, shows}
use denote.Memory.{cell_at, hidden_shr}
use denote.Opens.{Opens}
use denote.Steps.{peeks, looks, shuts}
use denote.Struct.Laws.{u64-copy}
use denote.Struct.Lending.{lent_out}
use denote.Struct.Owning.{shape, to}
use denote.Struct.Struct.{Struct}
use Rattle.seize_book.specs.Peeks.{keys_show}
use Rattle.seize_book.proofs.Fields.{ends}
use Rattle.seize_words.specs.contracts.link.still.StillWord as StillWord
use Rattle.seize_words.specs.contracts.link.still.StillWord.word.{ended, clauses}
use Rattle.seize_words.specs.contracts.link.still.StillWord.word.Key.{name as #self}
use Rattle.seize_words.proofs.link.still.StillWord.word.Statement.{statement}
use Rattle.seize_words.proofs.link.still.StillWord.word.Code as code

abbrev D : RattleType
D = Struct (shape StillWord.the_type)

abbrev word_val : ℕ → Val
word_val n = vstruct (vcons (vint w64 n) vnil)

told : (n : ℕ) (vs : List Val) → Is D (n, tt) vs → (vs ≡ word_val n ∷ []) × (n < 2 ^ 64)
told n vs is = (is.1.0 ∙ (λ i. vstruct (of_list (is.1.1.0.0 i ++ [])) ∷ []), is.1.1.0.1)

opened : {M : Type 1} {𝓤 : Ura M} (𝓛 : Logic 𝓤) → Opens 𝓛 D
opened {M} {𝓤 = 𝓤} 𝓛 = (Struct-Copied 𝓛 (shape StillWord.the_type) (refl, tt) (u64-copy.copied M 𝓤 𝓛, tt)).opens

pub word_spec : {M : Type 1} → statement M
word_spec 𝓤 𝓛 𝓜 𝓡 wired =
    let H = 𝓛.H in let 𝓣 = tables 𝓤 H 𝓜 𝓡 𝓡.env in let fn = code.function in let Row : RattleType = StillWord.the_row in let c = clauses 𝓛 𝓜.mem 𝓡.returns in
    let self = RefOf (0 ∷ []) tt (plain (λ _. Row)) (λ _. tt) in let hs : Stays ended.signature.params ended.kept = (stay_dropped self yes, tt) in
    proved 𝓛 ended hs c 𝓜 𝓡 (Goes-dropped 𝓛 1 self yes (λ κs x f. refl), tt) #self fn (code.unfolded 𝓤 H 𝓜 𝓡 wired) (λ κs. (shr_vals, tt)) (λ κs. (shr_Tells (named 0) κs.0 Row, tt)) (λ κs qs bounds a gh are.
    let rb : ℕ = a.0.ref_ptr.0 in let ro : ℕ = a.0.ref_ptr.1 in let κ : Lft = κs.0 in let q : Share = qs.0 in let d : Row.Denot = a.0.now in let n : ℕ = d.bits in
    let y : (walk_of 𝓛 ended hs c).Ghost = ((κs, qs, bounds, a, (vptr rb ro ∷ [], tt)), gh) in let Post : Val → SProp 𝓤 = (walk_of 𝓛 ended hs c).post y in
    qed 𝓛 (((‵ (flft κ q) ⊛ ‵ ftrue) ⊛ ‵ (owns (types_at ended.signature.params κs) a y.0.4)) ∷ raw ((c κs a).requires gh) ∷ []) ∵ split ! $ split ! $ move ! (2 ∷ []) $ fsplit ! $ fsplit ! $
    -- [the reference; the word; nothing; the token; nothing]
    keep ! (1 ∷ 3 ∷ 4 ∷ []) $
    enter ! 𝓣.C 𝓣.Λ fn (vptr rb ro ∷ []) Post $ alloc_all ! (λ l. pass_all ! refl ((tt, tt), tt) $
    use1 𝓛 (‵ (hidden_shr D κ (to StillWord.the_type d) rb ro) ⊛ ‵ (fhide (keys_show d.name d.held κ))) (lent_out 𝓛 StillWord.struct StillWord.the_codes StillWord.the_heap StillWord.the_lent κ d rb ro) $ split ! $
    -- [the field; what the keys show; the token; nothing]
    move ! (0 ∷ 2 ∷ []) $ looks ! tt D (opened 𝓛) (n, tt) rb ro (λ q' vs. move ! (1 ∷ []) $ peeks ! D (Is D) (shows 𝓛 D) (n, tt) vs (λ so. let ev = told n vs so in
    rewrite ! 1 (λ (ws : List Val). ‵ (cell_at q' D.mir ws rb ro)) ev.0 refl $
    sets ! (of_opd ! (load ! (through ! refl (fld ! refl (stop !))) (look_in ! 1 (sub ! 0 refl (whole !))))) refl (tt, record { fits = ev.1 }) $
    rewrite ! 1 (λ (ws : List Val). ‵ (cell_at q' D.mir ws rb ro)) (sym ev.0) refl $ move ! (1 ∷ 0 ∷ 2 ∷ []) $ shuts ! tt D q' (n, tt) vs rb ro $
    -- [the token; the field; what the keys show; nothing]
    flt_i ! n (2 ^ 64) ev.1 $ feq_i ! (List Val) (vint w64 n ∷ []) (vint w64 n ∷ []) refl $ fjoin ! $
    move ! (1 ∷ 4 ∷ []) $ fjoin ! $ nothing ! $ nothing ! $ fjoin ! $
    -- [what is left of the reference; the tokens; the result]
    returns ! (look_at ! 0 refl) $ free_all ! refl $ keep ! (1 ∷ 0 ∷ 2 ∷ []) $
    by ! (ends 𝓛 ended hs c y (vint w64 n) n (tt, tt) (tt, tt) (fact_i 𝓤 _ (emp 𝓤) refl))))))
