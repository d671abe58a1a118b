-- The relations of the documentation and the ends that are worked out agree: what is told by its spelling. Assumes nothing.
use Rattle.std.proofs.Common.{◌≡◌, ℕ, Bool, true, false, cond, List, Some, None, Option, refl, ◌∙◌}
use Rattle.std.proofs.lemmas.Bool.{cond-false}
use Rattle.marks.specs.Places.{escaped}
use Rattle.marks.specs.Spelling.{spelt_end, first_end}
use Rattle.marks.specs.AttrRef.{braced_name, AttrRefAt, attr_ref_end}
use Rattle.marks.specs.Callout.{callouts, CalloutAt, callout_end}
use Rattle.marks.specs.Entity.{references, EntityAt, entity_end}
use Rattle.marks.proofs.Spells.{never, reached-spelt, spelt-reached, first-spelt, spelt-first}

-- the end that is worked out is the end of such a stretch, and where there is such a stretch its end is worked out
abbrev pub Exact : (List ℕ → ℕ → Option ℕ) → (List ℕ → ℕ → ℕ → Type 0) → Type 0
Exact end Stretch =
    (page : List ℕ) (p e : ℕ) → (end page p ≡ Some e → Stretch page p e) × (Stretch page p e → end page p ≡ Some e)

-- behind a test that lets nothing through where it is true
pub unless : (b : Bool) (o : Option ℕ) (e : ℕ) → cond b None o ≡ Some e → (b ≡ false) × (o ≡ Some e)
unless true o e h = absurd (never h)
unless false o e h = (refl, h)

pub attr-ref-exact : Exact attr_ref_end AttrRefAt
attr-ref-exact page p e = (
  λ h. let u = unless (escaped page p) (spelt_end braced_name page p) e h in (u.0, reached-spelt braced_name page p e refl u.1),
  λ r. cond-false (escaped page p) None (spelt_end braced_name page p) r.0 ∙ spelt-reached braced_name page p e refl r.1,
)

pub entity-exact : Exact entity_end EntityAt
entity-exact page p e = (
  λ h. let u = unless (escaped page p) (first_end references page p) e h in (u.0, first-spelt references page p e refl u.1),
  λ r. cond-false (escaped page p) None (first_end references page p) r.0 ∙ spelt-first references page p e refl r.1,
)

pub callout-exact : Exact callout_end CalloutAt
callout-exact page p e = (λ h. first-spelt callouts page p e refl h, λ r. spelt-first callouts page p e refl r)
