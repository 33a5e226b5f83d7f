-- What is held after deliveries.
use Rattle.std.proofs.Common.{◌≡◌, ◌⊎◌, ◌↔◌, ℕ, List, [], ◌∷◌, ◌++◌, Contains, sym, subst, ◌∙◌, inl, inr}
use Rattle.bag_receiver.proofs.FileLemmas.{content_held, File, has_with_file, path_held, rising_with_file, same_files}
use Rattle.bag_receiver.proofs.FirstLemmas.{accepts_first, FirstIn, first_accepts, first_cases, first_in, first_left, first_right, in_first}
use Rattle.bag_receiver.proofs.Words.{Accepts, AcceptsPassing, AreAccepted, AreHeldFor, AreRising, contains_from_has, Delivery, Files, Has, IsAccepted, IsFirstHeld, keys_of, OneContent, Whole, with_file}
use Rattle.bag_rules.proofs.HasLemmas.{has_left, has_right}

-- LISTS JOINED

module _ (old middle new : Files) (deliveries others : List Delivery) (h : IsFirstHeld old deliveries middle) (k : IsFirstHeld middle others new) where
  -- a path that wasn't held in the middle wasn't held before
  not_before : (path : List ℕ) → ¬ Contains (keys_of middle) path → ¬ Contains (keys_of old) path
  not_before path away held = let file = content_held old path held in away (path_held middle path file.0 ((h.exact path file.0).1 (inl file.1)))

  none_first : (path : List ℕ) → ¬ Contains (keys_of middle) path → (other : List ℕ) → ¬ FirstIn deliveries path other
  none_first path away other first = away (path_held middle path other ((h.exact path other).1 (inr (not_before path away, in_first deliveries path other first))))

  joined_has : (path content : List ℕ) → Has new (path, content) → Has old (path, content) ⊎ ((¬ Contains (keys_of old) path) × FirstIn (deliveries ++ others) path content)
  joined_has path content has = elim ((k.exact path content).0 has) [
    | inl there ↦ elim ((h.exact path content).0 there) [
      | inl before ↦ inl before
      | inr first ↦ inr (first.0, first_left deliveries others path content (first_in deliveries path content first.1))
    ]
    | inr first ↦ inr (not_before path first.0, first_right deliveries others path content (none_first path first.0) (first_in others path content first.1))
  ]

  joined_first : (path content : List ℕ) → ¬ Contains (keys_of old) path → FirstIn (deliveries ++ others) path content → Has new (path, content)
  joined_first path content away first = elim (first_cases deliveries others path content first) [
    | inl here ↦ (k.exact path content).1 (inl ((h.exact path content).1 (inr (away, in_first deliveries path content here))))
    | inr later ↦ (k.exact path content).1 (inr (
      λ held. (let file = content_held middle path held in elim ((h.exact path file.0).0 file.1) [ inl before ↦ away (path_held old path file.0 before) | inr here ↦ later.0 file.0 (first_in deliveries path file.0 here.1) ]),
      in_first others path content later.1,
    ))
  ]

  pub held_joined : IsFirstHeld old (deliveries ++ others) new
  held_joined = record {
    rising = k.rising;
    exact = λ path content. (
      λ has. elim (joined_has path content has) [ inl before ↦ inl before | inr first ↦ inr (first.0, in_first (deliveries ++ others) path content first.1) ],
      λ either. elim either [ inl before ↦ (k.exact path content).1 (inl ((h.exact path content).1 (inl before))) | inr first ↦ joined_first path content first.0 (first_in (deliveries ++ others) path content first.1) ],
    );
  }

pub held_one : (old : Files) (deliveries : List Delivery) (new other : Files) → IsFirstHeld old deliveries new → IsFirstHeld old deliveries other → new ≡ other
held_one old deliveries new other h k = same_files new other h.rising k.rising (λ path content. (
  λ has. (k.exact path content).1 ((h.exact path content).0 has),
  λ has. (h.exact path content).1 ((k.exact path content).0 has),
))

-- LISTS OF FEW DELIVERIES

pub held_none : (old : Files) → AreRising (keys_of old) → IsFirstHeld old [] old
held_none old rising = record {
  rising = rising;
  exact = λ path content. (λ has. inl has, λ either. elim either [ inl has ↦ has | inr first ↦ absurd (first_in [] path content first.1) ]);
}

pub held_more : (old : Files) (delivery : Delivery) (path content : List ℕ) → AreRising (keys_of old) → IsAccepted delivery path content → ¬ Contains (keys_of old) path → IsFirstHeld old (delivery ∷ []) (with_file old path content)
held_more old delivery path content rising accepted away =
    let put = has_with_file path content old (λ h. away (contains_from_has (keys_of old) path h)) in
    record {
      rising = rising_with_file path content old rising;
      exact = λ p c. (
        λ has. elim ((put (p, c)).0 has) [
          | inl there ↦ inl there
          | inr e ↦ inr (
            subst (λ (f : File). ¬ Contains (keys_of old) f.0) e away,
            in_first (delivery ∷ []) p c (inl (subst (λ (f : File). IsAccepted delivery f.0 f.1) e accepted)),
          )
        ],
        λ either. (put (p, c)).1 (elim either [
          | inl there ↦ inl there
          | inr first ↦ elim (first_in (delivery ∷ []) p c first.1) [
            | inl here ↦ inr (
                let same : path ≡ p = sym accepted.brings.0 ∙ here.brings.0 in
                let whole : Whole content ≡ Whole c = sym accepted.brings.1 ∙ here.brings.1 in
                cc
                )
            | inr none ↦ absurd none.1
          ]
        ]),
      );
    }

-- a delivery that wasn't accepted, or for a path that is held
pub held_still : (old : Files) (delivery : Delivery) → AreRising (keys_of old) → ((path content : List ℕ) → IsAccepted delivery path content → Contains (keys_of old) path) → IsFirstHeld old (delivery ∷ []) old
held_still old delivery rising only = record {
  rising = rising;
  exact = λ path content. (
    λ has. inl has,
    λ either. elim either [
      | inl has ↦ has
      | inr first ↦ elim (first_in (delivery ∷ []) path content first.1) [ inl here ↦ absurd (first.0 (only path content here)) | inr none ↦ absurd none.1 ]
    ],
  );
}

-- WHAT WAS ACCEPTED

pub held_passes : (tags old : Files) (deliveries : List Delivery) (new : Files) → IsFirstHeld old deliveries new → AreHeldFor tags old → AcceptsPassing tags deliveries → AreHeldFor tags new
held_passes tags old deliveries new h before passing = record {
  rising = h.rising;
  passing = λ path content has. elim ((h.exact path content).0 has) [
    | inl there ↦ before.passing path content there
    | inr first ↦ passing path content (first_accepts deliveries path content (first_in deliveries path content first.1))
  ];
}

-- without files, no path is held
pub none_held : (path : List ℕ) → ¬ Contains (keys_of {X = List ℕ} []) path
none_held path h = (content_held [] path h).1

pub held_accepted : (tags : Files) (deliveries : List Delivery) (held : Files) → OneContent tags deliveries → AcceptsPassing tags deliveries → IsFirstHeld [] deliveries held → AreAccepted deliveries held
held_accepted tags deliveries held one passing h = record {
  rising = h.rising;
  exact = λ path content. (
    λ has. elim ((h.exact path content).0 has) [ inl none ↦ absurd none | inr first ↦ first_accepts deliveries path content (first_in deliveries path content first.1) ],
    λ accepts.
        let first = accepts_first deliveries path content accepts in
        let taken = first_accepts deliveries path first.0 first.1 in
        let same : first.0 ≡ content = one path first.0 content (taken.0, taken.1, taken.2.brings) (accepts.0, accepts.1, accepts.2.brings) (passing path first.0 taken) (passing path content accepts) in
        (h.exact path content).1 (inr (none_held path, in_first deliveries path content (subst (λ c. FirstIn deliveries path c) same first.1))),
  );
}

pub accepted_same : (deliveries others : List Delivery) (held other : Files) → ((path content : List ℕ) → Accepts deliveries path content ↔ Accepts others path content) → AreAccepted deliveries held → AreAccepted others other → held ≡ other
accepted_same deliveries others held other same h k = same_files held other h.rising k.rising (λ path content. (
  λ has. (k.exact path content).1 ((same path content).0 ((h.exact path content).0 has)),
  λ has. (h.exact path content).1 ((same path content).1 ((k.exact path content).0 has)),
))

pub one_left : (tags : Files) (deliveries others : List Delivery) → OneContent tags (deliveries ++ others) → OneContent tags deliveries
one_left tags deliveries others one path content other a b = one path content other (a.0, has_left deliveries others a.0 a.1, a.2) (b.0, has_left deliveries others b.0 b.1, b.2)

pub one_right : (tags : Files) (deliveries others : List Delivery) → OneContent tags (deliveries ++ others) → OneContent tags others
one_right tags deliveries others one path content other a b = one path content other (a.0, has_right deliveries others a.0 a.1, a.2) (b.0, has_right deliveries others b.0 b.1, b.2)
