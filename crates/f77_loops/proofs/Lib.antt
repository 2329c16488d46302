pub mod FollowingLemmas
