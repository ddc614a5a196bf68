-- `sight` tells what is lent, for as long as the pool is borrowed.
use Rattle.seize_content.proofs.Kit.{◌≡◌, ℕ, [], ◌∷◌, ◌++◌, refl, proved, leaves, Val, vptr, SProp, emp, Lft, ftrue, fsep, flft, ‵, raw, ◌⊛◌, ◌$◌, ◌∵◌, !, qed, by, move, keep, split, fsplit, fjoin, use0, use1, use2, no_more, and_then, returns, enter, alloc_all, pass_all, free_all, look_at, get, sets, agg, fact, fact_i, tables, yes, RattleType, owns, types_at, plain, RefOf, shr_vals, shr_Tells, unhide, nothing, Stays, stay_dropped, walk_of, Goes-dropped, named}
use base.Before.{before}
use base.Fml.{fhide}
use base.Stored.{Gv}
use types.Na.{before-Incl, before_lent}
use contract.BorrowLft.{meet_⊑_left}
use denote.Builtin.{unit}
use denote.Memory.{hidden_shr}
use denote.Ref.{ShrRef}
use denote.Signature.{named_lft}
use denote.Struct.Lending.{lent_out}
use Rattle.core.specs.contracts.marker.PhantomData as marker
use Rattle.seize_content.specs.Contents.{pool_shares}
use Rattle.seize_content.specs.contracts.loan.Pool as pool
use Rattle.seize_content.specs.contracts.loan.Sight as sight
use Rattle.seize_content.proofs.Fields.{token, Marked, marked_made}
use Rattle.seize_content.specs.contracts.loan.Pool.sight.{ended, clauses}
use Rattle.seize_content.specs.contracts.loan.Pool.sight.Key.{name as #self}
use Rattle.seize_content.proofs.loan.Pool.sight.Statement.{statement}
use Rattle.seize_content.proofs.loan.Pool.sight.Code as code

pub sight_spec : {M : Type 1} → statement M
sight_spec 𝓤 𝓛 𝓜 𝓡 wired =
    let H = 𝓛.H in let 𝓣 = tables 𝓤 H 𝓜 𝓡 𝓡.env in let fn = code.function in let Row : RattleType = pool.the_row in let c = clauses 𝓛 𝓜.mem 𝓡.returns in
    let self = RefOf (0 ∷ []) tt (plain (λ _. Row)) (λ _. tt) in let hs : Stays ended.signature.params ended.kept = (stay_dropped self yes, tt) in
    proved 𝓛 ended hs c 𝓜 𝓡 (Goes-dropped 𝓛 1 self yes (λ κs x f. refl), tt) #self fn (code.unfolded 𝓤 H 𝓜 𝓡 wired) (λ κs. (shr_vals, tt)) (λ κs. (shr_Tells (named 0) κs.0 Row, tt)) (λ κs qs bounds a gh are.
    let rb : ℕ = a.0.ref_ptr.0 in let ro : ℕ = a.0.ref_ptr.1 in let κ : Lft = κs.0 in let d : Row.Denot = a.0.now in let n : ℕ = d.name in let α : Lft = d.life ∷ [] in let g : Gv = d.value in let S : RattleType = sight.the_row (named_lft 1 0 tt κs) in let mark : RattleType = ShrRef (named 0) κ unit in
    let y : (walk_of 𝓛 ended hs c).Ghost = ((κs, qs, bounds, a, (vptr rb ro ∷ [], tt)), gh) in let Post : Val → SProp 𝓤 = (walk_of 𝓛 ended hs c).post y in
    qed 𝓛 ((‵ (fsep (flft κ qs.0) ftrue) ⊛ ‵ (owns (types_at ended.signature.params κs) a y.0.4)) ∷ raw ((c κs a).requires gh) ∷ []) ∵ split ! $ move ! (1 ∷ []) $ fsplit ! $ fsplit ! $
    -- [the reference; the pool; nothing; the token; what was asked]
    keep ! (1 ∷ 3 ∷ []) $
    enter ! 𝓣.C 𝓣.Λ fn (vptr rb ro ∷ []) Post $ alloc_all ! (λ l. pass_all ! refl ((tt, tt), tt) $
    use1 𝓛 (‵ (hidden_shr (Marked unit) κ (record {}, tt) rb ro) ⊛ ‵ (fhide (pool_shares n d.life g κ))) (lent_out 𝓛 pool.struct (pool.the_codes (marker.the_row unit).coded) pool.the_heap pool.the_lent κ d rb ro) $ split ! $ move ! (1 ∷ []) $ unhide ! $ fsplit ! $
    -- [shares of its token; what is known; its marker; the token]
    use0 𝓛 (‵ (before (α ++ κ) α)) (before-Incl 𝓛 (α ++ κ) α (meet_⊑_left α κ)) $ move ! (1 ∷ 0 ∷ []) $ use2 𝓛 (‵ (before κ α)) (before_lent 𝓛 κ α α) $ fjoin ! $
    sets ! (agg ! (no_more !)) refl (tt, tt) $ sets ! (agg ! (and_then ! (get ! refl) (no_more !))) refl (tt, (tt, tt)) $
    use0 𝓛 (‵ ((Marked mark).own_val (record {}, tt) (token ∷ []))) (marked_made mark 𝓛) $ fjoin ! $ let r : S.Denot = record { marker = record {}; name = n; life = d.life; value = g } in
    -- [the result; its marker; the token]
    let Told : Type 0 = (n ≡ n) × (d.life ≡ d.life) × (g ≡ g) in use0 𝓛 (raw (fact 𝓤 Told)) (fact_i 𝓤 Told (emp 𝓤) (refl, refl, refl)) $ nothing ! $ nothing ! $ fjoin ! $
    -- [nothing; the ensures; the result; its marker; the token]
    returns ! (look_at ! 0 refl) $ free_all ! refl $ keep ! (4 ∷ 0 ∷ 2 ∷ 1 ∷ []) $ by ! (leaves 𝓛 ended hs c y token r (tt, tt) (tt, tt))))
