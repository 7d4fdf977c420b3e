pub mod EqualityLaws
pub mod PrintableBounds
pub mod Agreement
pub mod FrameLaw
pub mod RestoreLaw
pub mod GraphLaw
