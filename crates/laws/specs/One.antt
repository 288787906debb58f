-- What it is for a function's contract to leave one answer, and the three forms of contract here that do.
-- The contract is the function's own: `ended` and `clauses` are what Rattle makes of its signature and its clauses, and what its proof
-- is held to. Of a copy of the contract, written out beside it, the same could be proved while the contract itself is weakened.
-- Assumes nothing.
use Rattle.std.specs.Prelude.{◌≡◌, refl}
use Rattle.std.proofs.Common.{sym, ◌∙◌}
use Rattle.std.proofs.Math.Logic.{∥∥₁_elim}
use mathlib.Core.HLevel.{×_prop}
use seplogic.Ra.Ura.{Ura}
use base.Logic.{SProp, ent, emp, id⊢}
use base.Stored.{Coded, Coded-set, coded_unit}
use prog.Memory.{Memory}
use prog.Model.{Model}
use prog.Routine.{Routine}
use prog.Wired.{Code, Wired}
use mir.Syntax.{Callee}
use types.Logic.{Logic}
use contract.Monad.{Fun, fact}
use contract.Lifetimes.{Lfts}
use contract.Running.{Running}
use denote.Signature.{type_at}
use denote.Triple.Entry.{Args, Res}
use denote.Triple.Spec.{Meets}
use denote.Triple.Clauses.{Ended, Clauses, Lasts, AtExit, at_exit, closing}
use Rattle.laws.specs.Outcome.{Outcome, Does, once}

-- a contract: the clauses of a function of signature T, in every model of memory
abbrev pub Contract : Ended → Type 2
Contract T = (M : Type 1) (𝓤 : Ura M) (𝓛 : Logic 𝓤) → (Memory → SProp 𝓤) → (Routine → Fun 𝓤) → Clauses 𝓤 T

module _ (T : Ended) where
  -- the lifetimes of the references in the signature
  abbrev pub Lifetimes : Type 0
  Lifetimes = Lfts T.signature.lifetimes

  -- what a call is given
  abbrev pub Input : Lifetimes → Type 0
  Input κs = Args T.signature κs

  -- what it gives back
  abbrev pub Answer : Lifetimes → Type 0
  Answer κs = Res T.signature κs

  -- On the input a the contract allows the answer r with l left in lent memory: in some model its `ensures` holds of them.
  -- `Lasts` has a part for each parameter: of a `&mut [u8]` its last content, and of what cannot be written in nothing.
  pub record Allows (c : Contract T) (κs : Lifetimes) (a : Input κs) (r : Answer κs) (l : Lasts T κs a) : Type 2 where
    pub M : Type 1
    pub 𝓤 : Ura M
    pub 𝓛 : Logic 𝓤
    pub mem : Memory → SProp 𝓤
    pub run : Routine → Fun 𝓤
    pub ghost : (c M 𝓤 𝓛 mem run κs a).ghost
    pub at : M
    pub ensured : ((c M 𝓤 𝓛 mem run κs a).ensures ghost r (at_exit T κs a l)).holds at

  -- the function f of the code ρ meets the contract, wherever f means that code: what the function's proof shows
  abbrev pub Met : Contract T → Callee → Code → Type 2
  Met c f ρ =
      (M : Type 1) (𝓤 : Ura M) (𝓛 : Logic 𝓤) (𝓜 : Model 𝓤 𝓛.H) (𝓡 : Running 𝓤 𝓛.H 𝓜)
      → Wired 𝓡.env ρ → Meets 𝓛 T.signature (𝓡.run (𝓡.env f)) (closing 𝓛 T (c M 𝓤 𝓛 𝓜.mem 𝓡.returns))

  -- The function f of the code ρ meets the contract; the contract asks nothing of an input; and any two answers that it allows on one
  -- input are equal, as are any two contents of lent memory. So whatever else meets the contract answers as f does, and leaves what f
  -- leaves.
  pub record LeavesOne (c : Contract T) (f : Callee) (ρ : Code) : Type 2 where
    pub met : Met c f ρ
    pub asks : (M : Type 1) (𝓤 : Ura M) (𝓛 : Logic 𝓤) (mem : Memory → SProp 𝓤) (run : Routine → Fun 𝓤)
        → (κs : Lifetimes) (a : Input κs)
        → (g : (c M 𝓤 𝓛 mem run κs a).ghost) × ent 𝓤 (emp 𝓤) ((c M 𝓤 𝓛 mem run κs a).requires g)
    pub one : (κs : Lifetimes) (a : Input κs) (r s : Answer κs) (l m : Lasts T κs a)
        → Allows c κs a r l → Allows c κs a s m → (r ≡ s) × (l ≡ m)

  -- ---- a contract of one claim, on the input, the answer and what is left, that asks nothing: as all here are
  abbrev pub Claims : Type 1
  Claims = (κs : Lifetimes) → Input κs → Answer κs → AtExit T κs → Type 0

  abbrev pub Claim : Claims → Contract T
  Claim φ M 𝓤 𝓛 mem run κs a = record { ghost = Unit {0}; requires = λ g. emp 𝓤; ensures = λ g r e. fact 𝓤 (φ κs a r e) }

module _ {T : Ended} where
  -- the claim holds of what such a contract allows: a proof of anything that has no two proofs may use it
  pub claims : {φ : Claims T} {κs : Lifetimes T} {a : Input T κs} {r : Answer T κs} {l : Lasts T κs a} {Z : Type 0}
      → IsProp Z → Allows T (Claim T φ) κs a r l → (φ κs a r (at_exit T κs a l) → Z) → Z
  claims prop p f = ∥∥₁_elim p.ensured prop (λ i. f i.0)

  -- The contract leaves one answer where the claim does, with one value of what is seen of lent memory, which is all that is left there.
  leaves : {φ : Claims T} {k : Callee} {ρ : Code} {X : Type 0} → Coded X → (see : (κs : Lifetimes T) → AtExit T κs → X)
      → ((κs : Lifetimes T) (a : Input T κs) (l m : Lasts T κs a) → see κs (at_exit T κs a l) ≡ see κs (at_exit T κs a m) → l ≡ m)
      → ((κs : Lifetimes T) (a : Input T κs) (r s : Answer T κs) (e f : AtExit T κs)
      → φ κs a r e → φ κs a s f → (r ≡ s) × (see κs e ≡ see κs f))
      → Met T (Claim T φ) k ρ → LeavesOne T (Claim T φ) k ρ
  leaves {φ} coded see all same met = record {
    met = met;
    asks = λ M 𝓤 𝓛 mem run κs a. (tt, id⊢ 𝓤 (emp 𝓤));
    one = λ κs a r s l m p q.
        let e : AtExit T κs = at_exit T κs a l in
        let f : AtExit T κs = at_exit T κs a m in
        let prop : IsProp ((r ≡ s) × (see κs e ≡ see κs f)) =
        ×_prop (Coded-set (type_at T.signature.result κs).coded r s) (Coded-set coded (see κs e) (see κs f)) in
        let found : (r ≡ s) × (see κs e ≡ see κs f) =
        claims {φ = φ} prop p (λ i. claims {φ = φ} prop q (λ j. same κs a r s e f i j)) in
        (found.0, all κs a l m found.1);
  }

  -- where the claim leaves one answer, and no memory is lent to write in
  pub claimed : {φ : Claims T} {k : Callee} {ρ : Code}
      → ((κs : Lifetimes T) (a : Input T κs) (l m : Lasts T κs a) → l ≡ m)
      → ((κs : Lifetimes T) (a : Input T κs) (r s : Answer T κs) (e f : AtExit T κs) → φ κs a r e → φ κs a s f → r ≡ s)
      → Met T (Claim T φ) k ρ → LeavesOne T (Claim T φ) k ρ
  claimed {φ} still same met =
      leaves {φ = φ} coded_unit (λ κs e. tt) (λ κs a l m seen. still κs a l m) (λ κs a r s e f p q. (same κs a r s e f p q, refl)) met

  -- as where the answer is said to equal a value
  pub equation : {f : (κs : Lifetimes T) → Input T κs → Answer T κs} {k : Callee} {ρ : Code}
      → ((κs : Lifetimes T) (a : Input T κs) (l m : Lasts T κs a) → l ≡ m)
      → Met T (Claim T (λ κs a r e. r ≡ f κs a)) k ρ → LeavesOne T (Claim T (λ κs a r e. r ≡ f κs a)) k ρ
  equation {f} still met = claimed {φ = λ κs a r e. r ≡ f κs a} still (λ κs a r s e e' p q. p ∙ sym q) met

  -- where the answer, and what is seen of the lent memory, are said to be those of an outcome
  pub call : {X : Type 0} {f : (κs : Lifetimes T) → Input T κs → Outcome (Answer T κs) X} {see : (κs : Lifetimes T) → AtExit T κs → X}
      → {k : Callee} {ρ : Code} → Coded X
      → ((κs : Lifetimes T) (a : Input T κs) (l m : Lasts T κs a) → see κs (at_exit T κs a l) ≡ see κs (at_exit T κs a m) → l ≡ m)
      → Met T (Claim T (λ κs a r e. Does (f κs a) r (see κs e))) k ρ → LeavesOne T (Claim T (λ κs a r e. Does (f κs a) r (see κs e))) k ρ
  call {f} {see} coded all met =
      leaves {φ = λ κs a r e. Does (f κs a) r (see κs e)} coded see all (λ κs a r s e e' p q. once p q) met

  -- as where that is said of a view of the answer, which tells any two apart
  pub seen_equation : {A : Type 0} {f : (κs : Lifetimes T) → Input T κs → A} {view : (κs : Lifetimes T) → Input T κs → Answer T κs → A}
      → {k : Callee} {ρ : Code}
      → ((κs : Lifetimes T) (a : Input T κs) (r s : Answer T κs) → view κs a r ≡ view κs a s → r ≡ s)
      → ((κs : Lifetimes T) (a : Input T κs) (l m : Lasts T κs a) → l ≡ m)
      → Met T (Claim T (λ κs a r e. view κs a r ≡ f κs a)) k ρ → LeavesOne T (Claim T (λ κs a r e. view κs a r ≡ f κs a)) k ρ
  seen_equation {f} {view} tells still met =
      claimed {φ = λ κs a r e. view κs a r ≡ f κs a} still (λ κs a r s e e' p q. tells κs a r s (p ∙ sym q)) met

  pub seen_call : {A X : Type 0} {f : (κs : Lifetimes T) → Input T κs → Outcome A X}
      → {view : (κs : Lifetimes T) → Input T κs → Answer T κs → A} {see : (κs : Lifetimes T) → AtExit T κs → X} {k : Callee} {ρ : Code}
      → Coded X
      → ((κs : Lifetimes T) (a : Input T κs) (r s : Answer T κs) → view κs a r ≡ view κs a s → r ≡ s)
      → ((κs : Lifetimes T) (a : Input T κs) (l m : Lasts T κs a) → see κs (at_exit T κs a l) ≡ see κs (at_exit T κs a m) → l ≡ m)
      → Met T (Claim T (λ κs a r e. Does (f κs a) (view κs a r) (see κs e))) k ρ
      → LeavesOne T (Claim T (λ κs a r e. Does (f κs a) (view κs a r) (see κs e))) k ρ
  seen_call {f} {view} {see} coded tells all met =
      leaves {φ = λ κs a r e. Does (f κs a) (view κs a r) (see κs e)} coded see all
      (λ κs a r s e e' p q. let same = once p q in (tells κs a r s same.0, same.1)) met
