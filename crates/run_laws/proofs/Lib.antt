pub mod Submissions
pub mod Filtered
pub mod Rounds
pub mod NeverMoved
pub mod StillRounds
pub mod Fulls
pub mod LastRounds
pub mod Pods
