-- Two tokens of one row say the same.
use Rattle.seize_store.proofs.Kit.{◌≡◌, ℕ, List, [], ◌∷◌, refl, proved, leaves, Val, vptr, vunit, SProp, emp, Lft, ftrue, flft, ‵, raw, ◌⊛◌, ◌$◌, ◌∵◌, !, qed, by, move, keep, drop, split, fsplit, fjoin, use0, use1, use2, rewrite, feq_i, of_opd, returns, enter, alloc_all, pass_all, free_all, look_at, sets, fact, fact_i, tables, yes, RattleType, owns, types_at, plain, RefOf, shr_vals, shr_Tells, unhide, nothing, heard, Stays, stay_dropped, walk_of, Goes-dropped}
use mir.Syntax.{named}
use base.Fml.{fhide}
use denote.Memory.{hidden_shr}
use denote.Struct.Lending.{lent_out}
use types.Run.{unit_lit}
use denote.Builtin.{unit}
use Rattle.core.specs.contracts.marker.PhantomData as marker
use Rattle.seize_store.specs.RowTokens.{known_row}
use Rattle.seize_store.specs.contracts.row_token.RowToken as known
use Rattle.seize_store.proofs.Tokens.{Known, known_agree}
use Rattle.seize_store.proofs.Tokens as tokens
use denote.Struct.Struct.{Struct}
use denote.Struct.Owning.{shape}
use denote.Sharing.{said}
use Rattle.seize_store.specs.contracts.row_token.RowToken.agree.{ended, clauses}
use Rattle.seize_store.specs.contracts.row_token.RowToken.agree.Key.{name as #self}
use Rattle.seize_store.proofs.row_token.RowToken.agree.Statement.{statement}
use Rattle.seize_store.proofs.row_token.RowToken.agree.Code as code

pub agree_spec : {M : Type 1} → statement M
agree_spec 𝓤 𝓛 𝓜 𝓡 wired =
    let H = 𝓛.H in let 𝓣 = tables 𝓤 H 𝓜 𝓡 𝓡.env in let En = ended in let c = clauses 𝓛 𝓜.mem 𝓡.returns in let fn = code.function in let D : RattleType = Struct (shape known.the_type) in
    let self = RefOf (0 ∷ []) tt (plain (λ _. Known)) (λ _. tt) in let other = RefOf (1 ∷ []) tt (plain (λ _. Known)) (λ _. tt) in let hs : Stays En.signature.params En.kept = (stay_dropped self yes, (stay_dropped other yes, tt)) in
    proved 𝓛 En hs c 𝓜 𝓡 (Goes-dropped 𝓛 2 self yes (λ κs x f. refl), (Goes-dropped 𝓛 2 other yes (λ κs x f. refl), tt)) #self fn (code.unfolded 𝓤 H 𝓜 𝓡 wired)
    (λ κs. (shr_vals, (shr_vals, tt))) (λ κs. (shr_Tells (named 0) κs.0 Known, (shr_Tells (named 1) κs.1.0 Known, tt))) (λ κs qs bounds a gh are.
    let rb : ℕ = a.0.ref_ptr.0 in let ro : ℕ = a.0.ref_ptr.1 in let sb : ℕ = a.1.0.ref_ptr.0 in let so : ℕ = a.1.0.ref_ptr.1 in let κ : Lft = κs.0 in let μ : Lft = κs.1.0 in let m = a.0.now in let n = a.1.0.now in
    let y : (walk_of 𝓛 En hs c).Ghost = ((κs, qs, bounds, a, (vptr rb ro ∷ [], (vptr sb so ∷ [], tt))), gh) in let Post : Val → SProp 𝓤 = (walk_of 𝓛 En hs c).post y in let Asked : Type 0 = (m.store ≡ n.store) × (m.row ≡ n.row) in
    let toks = ‵ (flft κ qs.0) ⊛ ‵ (flft μ qs.1.0) ⊛ ‵ ftrue in let codes = (marker.the_row unit).coded in let fields = λ (d : Known.Denot). (known.the_type) in let Same : Type 0 = m.chunks ≡ n.chunks in
    qed 𝓛 ((toks ⊛ ‵ (owns (types_at En.signature.params κs) a y.0.4)) ∷ raw (fact 𝓤 Asked) ∷ []) ∵ move ! (1 ∷ []) $ heard ! Asked (λ asked. split ! $ move ! (1 ∷ []) $ fsplit ! $ fsplit ! $ drop ! $
    use1 𝓛 (‵ (hidden_shr D κ (record {}, tt) rb ro) ⊛ ‵ (fhide (said (tokens.told 𝓛 m) κ))) (lent_out 𝓛 known.struct (known.the_codes codes) known.the_heap known.the_lent κ m rb ro) $ split ! $ drop ! $ unhide ! $
    move ! (1 ∷ []) $ fsplit ! $ fsplit ! $ drop ! $ use1 𝓛 (‵ (hidden_shr D μ (record {}, tt) sb so) ⊛ ‵ (fhide (said (tokens.told 𝓛 n) μ))) (lent_out 𝓛 known.struct (known.the_codes codes) known.the_heap known.the_lent μ n sb so) $ split ! $ drop ! $ unhide ! $
    -- [what the second says; nothing; what the first says; the tokens]
    rewrite ! 2 (λ (store : List ℕ). ‵ (known_row store m.row m.chunks)) asked.0 refl $ rewrite ! 2 (λ (row : ℕ). ‵ (known_row n.store row m.chunks)) asked.1 refl $ move ! (2 ∷ 0 ∷ []) $
    use2 𝓛 (raw (fact 𝓤 Same)) (known_agree 𝓛 n.store n.row m.chunks n.chunks) $ heard ! Same (λ same. enter ! 𝓣.C 𝓣.Λ fn (vptr rb ro ∷ vptr sb so ∷ []) Post $ alloc_all ! (λ l. pass_all ! refl ((tt, tt), ((tt, tt), tt)) $
    sets ! (of_opd ! (unit_lit !)) refl (tt, tt) $ feq_i ! (List Val) (vunit ∷ []) (vunit ∷ []) refl $ use0 𝓛 (raw (fact 𝓤 Same)) (fact_i 𝓤 Same (emp 𝓤) same) $ nothing ! $ nothing ! $ fjoin ! $ nothing ! $ fjoin ! $
    returns ! (look_at ! 0 refl) $ free_all ! refl $ keep ! (4 ∷ 0 ∷ 2 ∷ 1 ∷ []) $ by ! (leaves 𝓛 En hs c y vunit tt (tt, (tt, tt)) (tt, (tt, tt)))))))
