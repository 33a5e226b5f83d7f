-- What the tag files say about a file, by its path.
use Rattle.std.proofs.Common.{◌≡◌, ◌≢◌, ◌⊎◌, ◌++◌, ◌∷◌, ◌∙◌, [], ℕ, true, false, List, Some, None, Vec, cond, is_eq, refl, sym, ap, subst, inl, inr}
use Rattle.std.specs.BTreeMap.{get}
use Rattle.std.specs.declared.alloc.Global.{Global}
use Rattle.bag_rules.proofs.Words.{AddsLength, AreByPath, bytes_eq, bytes_eq-Decides, cases_Bool, FetchLine, given_at, GivenLength, GivesLength, Has, is_eq-slice_cmp, is_payload, items_of, Lengths, nat_cmp, same_Some, slice_cmp}
use Rattle.bag_rules.proofs.HasLemmas.{has_push}

-- the same octets, or others
pub same_or_not : (xs ys : List ℕ) → (xs ≡ ys) × (bytes_eq xs ys ≡ true) ⊎ (xs ≢ ys) × (bytes_eq xs ys ≡ false)
same_or_not xs ys = elim (cases_Bool (bytes_eq xs ys)) [
  | inl h ↦ inl ((bytes_eq-Decides xs ys).0 h, h)
  | inr h ↦ inr ((λ e. let k : true ≡ false = sym ((bytes_eq-Decides xs ys).1 e) ∙ h in cc), h)
]

-- a key that was removed, and inserted with another value
pub length_added : (old mid new : Lengths) (path : List ℕ) (given : GivenLength) (lengths : Vec GivenLength Global)
    → ((q : List ℕ) → get (slice_cmp nat_cmp) mid q ≡ cond (is_eq (slice_cmp nat_cmp path q)) None (get (slice_cmp nat_cmp) old q))
    → ((q : List ℕ) → get (slice_cmp nat_cmp) new q ≡ cond (is_eq (slice_cmp nat_cmp path q)) (Some lengths) (get (slice_cmp nat_cmp) mid q))
    → lengths.items ≡ given_at old path ++ given ∷ [] → AddsLength old new path given
length_added old mid new path given lengths out in_again items = record {
  added = ap items_of (in_again path ∙ ap (λ b. cond b (Some lengths) (get (slice_cmp nat_cmp) mid path)) (is_eq-slice_cmp path path ∙ (bytes_eq-Decides path path).1 refl)) ∙ items;
  others = λ other unlike. elim (same_or_not path other) [
    | inl same ↦ absurd (unlike (sym same.0))
    | inr differ ↦ ap items_of (
        in_again other ∙ ap (λ b. cond b (Some lengths) (get (slice_cmp nat_cmp) mid other)) (is_eq-slice_cmp path other ∙ differ.1)
        ∙ out other ∙ ap (λ b. cond b None (get (slice_cmp nat_cmp) old other)) (is_eq-slice_cmp path other ∙ differ.1)
        )
  ];
}

pub no_lengths : (lengths : Lengths) → lengths.entries ≡ [] → AreByPath [] lengths
no_lengths lengths none = record {
  given = λ path given. (
    λ h. absurd (subst (λ gs. Has gs given) (empty path) h),
    λ h. absurd h.1,
  );
  payload = λ path other. empty path;
} where
  empty : (path : List ℕ) → given_at lengths path ≡ []
  empty path = rw none refl

abbrev given_by : ℕ → ℕ → GivenLength
given_by line len = record { line = line; length = len }

same_given : (a b : GivenLength) → a.line ≡ b.line → a.length ≡ b.length → a ≡ b
same_given a b line len = ap (λ n. given_by n a.length) line ∙ ap (given_by b.line) len

module _ (lines : List FetchLine) (line : FetchLine) (old : Lengths) (before : AreByPath lines old) where
  -- a line that gives no length
  pub nothing_given : line.entry.octets ≡ None → AreByPath (lines ++ line ∷ []) old
  nothing_given none = record {
    given = λ path given. (
      λ h. (let l = (before.given path given).0 h in (l.0, (has_push lines line l.0).1 (inl l.1), l.2)),
      λ h. elim ((has_push lines line h.0).0 h.1) [
        | inl earlier ↦ (before.given path given).1 (h.0, earlier, h.2)
        | inr this ↦ absurd (let k : None ≡ Some given.length = sym none ∙ ap (λ (l : FetchLine). l.entry.octets) this ∙ h.2.1 in cc)
      ],
    );
    payload = before.payload;
  }

  -- and one that gives one
  pub length_given : (new : Lengths) (given : GivenLength) → GivesLength line line.entry.path given → is_payload line.entry.path ≡ true → AddsLength old new line.entry.path given → AreByPath (lines ++ line ∷ []) new
  length_given new given gives payload adds = record {
    given = λ path g. elim (same_or_not line.entry.path path) [
      | inl same ↦ (
        λ h. elim ((has_push (given_at old path) given g).0 (subst (λ gs. Has gs g) (subst (λ p. given_at new p ≡ given_at old p ++ given ∷ []) same.0 adds.added) h)) [
          | inl earlier ↦ (let l = (before.given path g).0 earlier in (l.0, (has_push lines line l.0).1 (inl l.1), l.2))
          | inr this ↦ (line, (has_push lines line line).1 (inr refl), subst (λ x. GivesLength line path x) this (subst (λ p. GivesLength line p given) same.0 gives))
        ],
        λ h. subst (λ gs. Has gs g) (sym (subst (λ p. given_at new p ≡ given_at old p ++ given ∷ []) same.0 adds.added)) ((has_push (given_at old path) given g).1 (elim ((has_push lines line h.0).0 h.1) [
          | inl earlier ↦ inl ((before.given path g).1 (h.0, earlier, h.2))
          | inr this ↦
              let len = same_Some given.length g.length (sym gives.1 ∙ ap (λ (l : FetchLine). l.entry.octets) this ∙ h.2.1) in
              inr (same_given given g (sym gives.2 ∙ ap (λ (l : FetchLine). l.line) this ∙ h.2.2) len)
        ])),
      )
      | inr differ ↦ (
        λ h. (let l = (before.given path g).0 (subst (λ gs. Has gs g) (adds.others path (λ e. differ.0 (sym e))) h) in (l.0, (has_push lines line l.0).1 (inl l.1), l.2)),
        λ h. subst (λ gs. Has gs g) (sym (adds.others path (λ e. differ.0 (sym e)))) (elim ((has_push lines line h.0).0 h.1) [
          | inl earlier ↦ (before.given path g).1 (h.0, earlier, h.2)
          | inr this ↦ absurd (differ.0 (ap (λ (l : FetchLine). l.entry.path) this ∙ h.2.0))
        ]),
      )
    ];
    payload = λ path other. adds.others path (λ e. (let k : true ≡ false = sym payload ∙ ap is_payload (sym e) ∙ other in cc)) ∙ before.payload path other;
  }
