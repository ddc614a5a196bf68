-- What a `Known` owns can be had twice.
use Rattle.seize_store.proofs.Kit.{◌≡◌, ℕ, [], ◌∷◌, refl, named, proved, leaves, Val, vptr, SProp, emp, Lft, Fml, ftrue, flft, fhide, ‵, raw, ◌⊛◌, ◌$◌, ◌∵◌, !, qed, by, move, keep, drop, split, fsplit, fjoin, use0, use1, no_more, and_then, returns, enter, alloc_all, pass_all, free_all, look_at, get, sets, agg, fact, fact_i, tables, yes, RattleType, owns, types_at, plain, RefOf, unit, shr_vals, shr_Tells, hidden_shr, unhide, nothing, Stays, stay_dropped, walk_of, Goes-dropped}
use denote.Sharing.{said}
use denote.Struct.Lending.{lent_out}
use denote.Struct.Owning.{shape}
use denote.Struct.Struct.{Struct}
use Rattle.core.specs.contracts.marker.PhantomData as marker
use Rattle.seize_store.specs.contracts.row_token.RowToken as known
use Rattle.seize_store.proofs.Tokens.{Known, Data as Blank, token, known_made}
use Rattle.seize_store.proofs.Tokens as tokens
use Rattle.seize_store.specs.contracts.row_token.RowToken.again.{ended, clauses}
use Rattle.seize_store.specs.contracts.row_token.RowToken.again.Key.{name as #self}
use Rattle.seize_store.proofs.row_token.RowToken.again.Statement.{statement}
use Rattle.seize_store.proofs.row_token.RowToken.again.Code as code

pub again_spec : {M : Type 1} → statement M
again_spec 𝓤 𝓛 𝓜 𝓡 wired =
    let H = 𝓛.H in let 𝓣 = tables 𝓤 H 𝓜 𝓡 𝓡.env in let En = ended in let c = clauses 𝓛 𝓜.mem 𝓡.returns in let fn = code.function in let D : RattleType = Struct (shape known.the_type) in
    let self = RefOf (0 ∷ []) tt (plain (λ _. Known)) (λ _. tt) in let hs : Stays En.signature.params En.kept = (stay_dropped self yes, tt) in
    proved 𝓛 En hs c 𝓜 𝓡 (Goes-dropped 𝓛 1 self yes (λ κs x f. refl), tt) #self fn (code.unfolded 𝓤 H 𝓜 𝓡 wired) (λ κs. (shr_vals, tt)) (λ κs. (shr_Tells (named 0) κs.0 Known, tt)) (λ κs qs bounds a gh are.
    let rb : ℕ = a.0.ref_ptr.0 in let ro : ℕ = a.0.ref_ptr.1 in let κ : Lft = κs.0 in let m = a.0.now in let K : Fml = tokens.told 𝓛 m in
    let y : (walk_of 𝓛 En hs c).Ghost = ((κs, qs, bounds, a, (vptr rb ro ∷ [], tt)), gh) in let Post : Val → SProp 𝓤 = (walk_of 𝓛 En hs c).post y in let toks = ‵ (flft κ qs.0) ⊛ ‵ ftrue in
    qed 𝓛 ((toks ⊛ ‵ (owns (types_at En.signature.params κs) a y.0.4)) ∷ raw ((c κs a).requires gh) ∷ []) ∵ keep ! (0 ∷ []) $ split ! $ move ! (1 ∷ []) $ fsplit ! $ fsplit ! $ drop ! $
    use1 𝓛 (‵ (hidden_shr D κ (record {}, tt) rb ro) ⊛ ‵ (fhide (said K κ))) (lent_out 𝓛 known.struct (known.the_codes (marker.the_row unit).coded) known.the_heap known.the_lent κ m rb ro) $ split ! $ drop ! $ unhide ! $ move ! (1 ∷ []) $ drop ! $
    -- [what it says; the tokens]
    enter ! 𝓣.C 𝓣.Λ fn (vptr rb ro ∷ []) Post $ alloc_all ! (λ l. pass_all ! refl ((tt, tt), tt) $ sets ! (agg ! (no_more !)) refl (tt, tt) $ sets ! (agg ! (and_then ! (get ! refl) (no_more !))) refl (tt, (tt, tt)) $
    use0 𝓛 (‵ Blank) (known_made 𝓛) $ fjoin ! $ use0 𝓛 (raw (fact 𝓤 (m ≡ m))) (fact_i 𝓤 (m ≡ m) (emp 𝓤) refl) $ nothing ! $ nothing ! $ fjoin ! $
    returns ! (look_at ! 0 refl) $ free_all ! refl $ keep ! (3 ∷ 0 ∷ 2 ∷ 1 ∷ []) $ by ! (leaves 𝓛 En hs c y token m (tt, tt) (tt, tt))))
