-- Laws: the reply that an octet stands for.
use Rattle.std.specs.Prelude.{◌≡◌, refl, ℕ}
use Rattle.lists.specs.laws.Pick.{pick_not_eq}
use Rattle.decision.specs.declared.Reply.TheVariants.{Nothing}
use Rattle.verdict_octets.specs.Octets.{reply_for}
use Rattle.verdict_octets.specs.laws.Octets.{reply_offer, reply_lease, reply_release, reply_info, reply_nak}

-- ---- read
module _ {n : ℕ} where
  pub reply_none : (n ≡ 1 → ⊥) → (n ≡ 2 → ⊥) → (n ≡ 3 → ⊥) → (n ≡ 4 → ⊥) → (n ≡ 5 → ⊥) → Nothing ≡ reply_for n
  unfolding reply_for
  reply_none a b c d e = pick_not_eq _ _ _ n 1 a (pick_not_eq _ _ _ n 2 b (pick_not_eq _ _ _ n 3 c (pick_not_eq _ _ _ n 4 d (pick_not_eq _ _ _ n 5 e refl))))

pub ruleset replies = (reply_offer, reply_lease, reply_release, reply_info, reply_nak, reply_none)
